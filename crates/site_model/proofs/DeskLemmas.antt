-- After every command that is accepted, each desk that is open is of a user who may work there.
use Rattle.std.proofs.Common.{◌≡◌, ℕ, Bool, true, false, cond, not, ◌||◌, List, [], ◌∷◌, filter, Option, Ok, refl, ap, subst}
use Rattle.std.specs.List.{AllByRecursion}
use Rattle.site_types.specs.Content.{ContentValue}
use Rattle.site_types.specs.declared.command.Command.{Command}
use Rattle.tree_model.proofs.CountLemmas.{same_id}
use Rattle.tree_model.proofs.PageLemmas.{all_weaker}
use Rattle.site_model.specs.World.{DeskPair, TreePart, Deed, Effect}
use Rattle.site_model.specs.Desks.{desk_page, is_same_desk, stays, desk_opened, is_shut, with_pair, is_ended, settled}
use Rattle.site_model.specs.Step.{step_by}
use Rattle.site_model.specs.Step as steps
use Rattle.site_model.proofs.AcceptLemmas.{accepted}
use Rattle.site_model.proofs.DeletionSound.{all_kept}

-- a desk is the same as itself
same_desk : (pair : DeskPair) → is_same_desk pair pair ≡ true
same_desk pair = rw (same_id pair.page, same_id pair.user) refl

-- what is among fewer is among one more
one_more : (ends : Bool) (pair other : DeskPair) (ended : List DeskPair) →
    is_ended ended other ≡ true → is_ended (cond ends (pair ∷ ended) ended) other ≡ true
one_more true pair other ended is = second (is_same_desk other pair) (is_ended ended other) is
  where
    second : (a b : Bool) → b ≡ true → (a || b) ≡ true
    second true b h = refl
    second false b h = h
one_more false pair other ended is = is

-- each desk that the test ends is among those that end
each_ended : (ends : DeskPair → Bool) (pairs : List DeskPair) →
    AllByRecursion (λ (pair : DeskPair). ends pair ≡ true →
    is_ended (filter ends pairs) pair ≡ true) pairs
each_ended ends [] = tt
each_ended ends (pair ∷ pairs) = (
  (λ is. here (ends pair) is),
  all_weaker (λ (other : DeskPair). ends other ≡ true → is_ended (filter ends pairs) other ≡ true)
      (λ (other : DeskPair). ends other ≡ true →
      is_ended (filter ends (pair ∷ pairs)) other ≡ true) pairs
      (λ other found is. one_more (ends pair) pair other (filter ends pairs) (found is))
      (each_ended ends pairs),
)
  where
    here : (t : Bool) → t ≡ true →
        is_ended (cond t (pair ∷ filter ends pairs) (filter ends pairs)) pair ≡ true
    here true is = rw (same_desk pair) refl
    here false is = absurd (cc)

-- a test that would end a desk that does not end does not hold
not_ended : (test ended : Bool) → (test ≡ true → ended ≡ true) → not ended ≡ true → test ≡ false
not_ended true true follows is = absurd (cc)
not_ended true false follows is = let no = follows refl in absurd (cc)
not_ended false ended follows is = refl

-- what is neither shut nor lost stays
left_over : (shut stay : Bool) → (shut || not stay) ≡ false → stay ≡ true
left_over true stay is = absurd (cc)
left_over false true is = refl
left_over false false is = absurd (cc)

-- the desks that are open after a command stay
pub settled_stay : (caller : ℕ) (page : Option ℕ) (deed : Deed) →
    AllByRecursion (λ (pair : DeskPair). stays (settled caller page deed).0 pair ≡ true)
    (settled caller page deed).0.desk_pairs
settled_stay caller page deed =
    let open_pairs = with_pair (desk_opened caller page deed.opened) deed.part.desk_pairs in
    let ends = λ (pair : DeskPair).
    is_shut deed.shut caller page pair || not (stays deed.part pair) in
    let ended = filter ends open_pairs in
    all_kept (λ (pair : DeskPair). ends pair ≡ true → is_ended ended pair ≡ true)
    (λ (pair : DeskPair). stays deed.part pair ≡ true)
    (λ (pair : DeskPair). not (is_ended ended pair))
    open_pairs
    (λ pair found kept. left_over (is_shut deed.shut caller page pair) (stays deed.part pair)
    (not_ended (ends pair) (is_ended ended pair) found kept)) (each_ended ends open_pairs)

-- After every command that is accepted, each desk that is open is of a user who may work there.
pub desks_stay : (before after : TreePart) (told : Effect) (desk : Option ContentValue)
    (now caller : ℕ) (command : Command) →
    step_by before desk now caller command ≡ Ok (after, told) →
    AllByRecursion (λ (pair : DeskPair). stays after pair ≡ true) after.desk_pairs
desks_stay before after told desk now caller command is =
    let one = accepted before after told desk now caller command is in
    subst (λ (part : TreePart). AllByRecursion (λ (pair : DeskPair). stays part pair ≡ true)
    part.desk_pairs) (ap (λ (p : TreePart × Effect). p.0) one.done)
    (settled_stay caller (desk_page command) (steps.effect before desk now caller command))
