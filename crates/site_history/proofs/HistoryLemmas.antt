-- Laws of histories: what one more item at the end does.
use Rattle.std.proofs.Common.{◌≡◌, List, [], ◌∷◌, ◌++◌, refl}
use Rattle.site_history.specs.History.{Item, Tally, Decider, tick, tick_all, MayStand, AllMayStand}

module _ {World Entry Reply Refusal : Type 0} (decider : Decider World Entry Reply Refusal) where
  -- items that follow others go on from what the first come to
  pub tick_all-append : (tally : Tally World) (xs ys : List (Item Entry Reply)) →
      tick_all decider tally (xs ++ ys) ≡ tick_all decider
      (tick_all decider tally xs) ys
  tick_all-append tally [] ys = refl
  tick_all-append tally (x ∷ xs) ys = tick_all-append (tick decider tally x) xs ys

  -- legal items, and one that may stand after them, are legal together
  pub AllMayStand-push : (tally : Tally World) (xs : List (Item Entry Reply)) (x : Item Entry Reply)
      →
      AllMayStand decider tally xs →
      MayStand decider (tick_all decider tally xs) x →
      AllMayStand decider tally (xs ++ x ∷ [])
  AllMayStand-push tally [] x all next = (next, tt)
  AllMayStand-push tally (y ∷ ys) x all next =
      (all.0, AllMayStand-push (tick decider tally y) ys x all.1 next)

  -- what is legal together was legal before its last item came, which may stand there
  pub AllMayStand-pop : (tally : Tally World) (xs : List (Item Entry Reply)) (x : Item Entry Reply)
      →
      AllMayStand decider tally (xs ++ x ∷ []) →
      AllMayStand decider tally xs × MayStand decider
      (tick_all decider tally xs) x
  AllMayStand-pop tally [] x all = (tt, all.0)
  AllMayStand-pop tally (y ∷ ys) x all =
      let rest = AllMayStand-pop (tick decider tally y) ys x all.1 in
      ((all.0, rest.0), rest.1)
