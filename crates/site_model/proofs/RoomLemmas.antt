-- Where no step of a graft is past the last, there was room at its place.
use Rattle.std.proofs.Common.{◌≡◌, ◌+◌, ◌≤◌, ℕ, Bool, true, false, cond, ◌||◌, List, nat_eq, inl, inr, arith}
use Rattle.page_tree.specs.Tree.{Forest, bare, grown, Place, First, Before, End, kids_of, or_else, last_step, raised, put_last, put_before, put, graft}
use Rattle.tree_model.specs.Shape.{AreWithin}
use Rattle.tree_model.proofs.CountLemmas.{one, count, none_or_some, or_bare}
use Rattle.tree_model.proofs.PlaceLemmas.{has_kid, IsAmong, kids_absent}

module _ {Body : Type 0} where
  -- siblings one step later
  raised_room : (last before : ℕ) (f : Forest Body) → before + 1 ≤ last →
      AreWithin last (raised f) → last_step before f + 1 ≤ last
  raised_room last before bare here within = here
  raised_room last before (grown i step slug body kids rest) here within =
      raised_room last step rest within.0 within.2

  -- one more at the end of siblings
  last_room : (last before n at : ℕ) (slug : List ℕ) (own : Body) (below f : Forest Body) →
      AreWithin last (put_last before (grown n at slug own below bare) f) →
      last_step before f + 1 ≤ last
  last_room last before n at slug own below bare within = within.0
  last_room last before n at slug own below (grown i step s body kids rest) within =
      last_room last step n at slug own below rest within.2

  -- one more before a sibling
  before_room : (last before sibling n at : ℕ) (slug : List ℕ) (own : Body)
      (below f : Forest Body) →
      has_kid sibling f ≡ true →
      AreWithin last (put_before sibling (grown n at slug own below bare) f) →
      last_step before f + 1 ≤ last
  before_room last before sibling n at slug own below bare among within = absurd (cc)
  before_room last before sibling n at slug own below (grown i step s body kids rest) among within =
      choice (nat_eq i sibling) among (before_room last step sibling n at slug own below rest)
      within
    where
      choice : (t : Bool) → (t || has_kid sibling rest) ≡ true →
          (has_kid sibling rest ≡ true →
          AreWithin last (put_before sibling (grown n at slug own below bare) rest) →
          last_step step rest + 1 ≤ last) →
          AreWithin last (cond t
          (grown n step slug own below (raised (grown i step s body kids rest)))
          (grown i step s body kids (put_before sibling (grown n at slug own below bare) rest))) →
          last_step step rest + 1 ≤ last
      choice true h later all = raised_room last step rest all.2.0 all.2.2
      choice false h later all = later h all.2

  -- one more among siblings
  put_room : (last n at : ℕ) (slug : List ℕ) (own : Body) (below : Forest Body) (place : Place)
      (f : Forest Body) → IsAmong place f →
      AreWithin last (put place (grown n at slug own below bare) f) → last_step 0 f + 1 ≤ last
  put_room last n at slug own below First f among within =
      raised_room last 0 f within.0 within.2
  put_room last n at slug own below (Before sibling) f among within =
      before_room last 0 sibling n at slug own below f among within
  put_room last n at slug own below End f among within =
      last_room last 0 n at slug own below f within

  -- one more below a parent that stands once
  pub graft_room : (last p n at : ℕ) (slug : List ℕ) (own : Body) (below : Forest Body)
      (place : Place) (f : Forest Body) → count p f ≡ 1 → IsAmong place (kids_of p f) →
      AreWithin last (graft p place (grown n at slug own below bare) f) →
      last_step 0 (kids_of p f) + 1 ≤ last
  graft_room last p n at slug own below place bare once among within =
      let no : ⊥ = omega arith in absurd no
  graft_room last p n at slug own below place (grown i step s body kids rest) once among within =
      choice (grown n at slug own below bare) (nat_eq i p) once among
      (put_room last n at slug own below place kids)
      (graft_room last p n at slug own below place kids)
      (graft_room last p n at slug own below place rest) within
    where
      choice : (node : Forest Body) (t : Bool) → one t + (count p kids + count p rest) ≡ 1 →
          IsAmong place (cond t kids (or_else (kids_of p kids) (kids_of p rest))) →
          (IsAmong place kids → AreWithin last (put place node kids) →
          last_step 0 kids + 1 ≤ last) →
          (count p kids ≡ 1 → IsAmong place (kids_of p kids) →
          AreWithin last (graft p place node kids) → last_step 0 (kids_of p kids) + 1 ≤ last) →
          (count p rest ≡ 1 → IsAmong place (kids_of p rest) →
          AreWithin last (graft p place node rest) → last_step 0 (kids_of p rest) + 1 ≤ last) →
          AreWithin last (cond t (grown i step s body (put place node kids) rest)
          (grown i step s body (graft p place node kids) (graft p place node rest))) →
          last_step 0 (cond t kids (or_else (kids_of p kids) (kids_of p rest))) + 1 ≤ last
      choice node true h here put_in in_kids in_rest all = put_in here all.1
      choice node false h here put_in in_kids in_rest all = elim (none_or_some (count p kids)) [
        | inl none ↦
            let gone = kids_absent p kids none in
            rw gone (in_rest (omega (arith, h, none)) (rw gone at here) all.2)
        | inr some ↦
            let gone = kids_absent p rest (omega (arith, h, some)) in
            rw (gone, or_bare (kids_of p kids))
            (in_kids (omega (arith, h, some)) (rw (gone, or_bare (kids_of p kids)) at here) all.1)
      ]
