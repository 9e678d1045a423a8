-- A graft has a row with a step past the last exactly where there is no room at its place.
use Rattle.std.proofs.Common.{◌≡◌, ◌+◌, ◌≤◌, ℕ, Bool, true, false, List, [], ◌∷◌, ◌++◌, Option, Some, None, nat_lt, refl, sym, ap, ◌∙◌, arith}
use Rattle.std.specs.List.{list_any}
use Rattle.std.proofs.lemmas.Bool.Decides.{nat_tests}
use Rattle.page_tree.specs.Tree.{Forest, bare, grown, Place, First, Before, End, AreRising, kids_of, last_step, step_needed, graft}
use Rattle.page_tree.specs.Rows.{Row, rows_below, rows_of, child_url}
use Rattle.step_path.specs.declared.step.TheConstants.{LAST_STEP}
use Rattle.site_types.specs.declared.body.Body.{Body}
use Rattle.tree_model.specs.Limits.{is_full}
use Rattle.tree_model.specs.Shape.{AreWithin}
use Rattle.tree_model.proofs.CountLemmas.{count}
use Rattle.tree_model.proofs.PlaceLemmas.{IsAmong, AtParent-kids}
use Rattle.tree_model.proofs.SiblingLemmas.{AreWithin-graft}
use Rattle.site_model.proofs.ClearLemmas.{limit_clear}
use Rattle.site_model.proofs.RoomLemmas.{graft_room}
use Rattle.site_model.proofs.RowLemmas.{any_append, rows_within}

-- whether a path has a step past the last
abbrev goes_past : List ℕ → Bool
goes_past path = list_any (λ step. nat_lt LAST_STEP step) path

-- whether a row has one
abbrev pub any_past : List (Row Body) → Bool
any_past rows = list_any (λ row. goes_past row.path) rows

-- no row has one where no page has
none_past : (parent : Option ℕ) (path url : List ℕ) (f : Forest Body) → goes_past path ≡ false →
    AreWithin LAST_STEP f → any_past (rows_below parent path url f) ≡ false
none_past parent path url bare front within = refl
none_past parent path url (grown i step slug body kids rest) front within =
    let fits : step ≤ LAST_STEP = within.0 in
    let one : nat_lt LAST_STEP step ≡ false = grind (arith, nat_tests) in
    let longer : goes_past (path ++ step ∷ []) ≡ false =
    any_append (λ s. nat_lt LAST_STEP s) path (step ∷ []) ∙ rw (front, one) refl in
    let below = none_past (Some i) (path ++ step ∷ []) (child_url url slug) kids longer within.1 in
    let after = none_past parent path url rest front within.2 in
    rw (
      longer,
      any_append (λ (row : Row Body). goes_past row.path)
          (rows_below (Some i) (path ++ step ∷ []) (child_url url slug) kids)
          (rows_below parent path url rest),
      below,
      after,
    ) refl

-- the step that each place asks for
needed_is : (place : Place) (kids : Forest Body) → step_needed place kids ≡ last_step 0 kids + 1
needed_is First kids = refl
needed_is (Before sibling) kids = refl
needed_is End kids = refl

-- a graft of a page with steps within the last, among pages with such steps
pub graft_past : (parent n at : ℕ) (slug : List ℕ) (own : Body) (below : Forest Body)
    (place : Place) (left : Forest Body) → count parent left ≡ 1 →
    IsAmong place (kids_of parent left) → AreRising 0 left → AreWithin LAST_STEP left →
    AreWithin LAST_STEP below →
    any_past (rows_of (graft parent place (grown n at slug own below bare) left))
    ≡ is_full left parent place
graft_past parent n at slug own below place left once among rising within inside =
    by (nat_lt LAST_STEP (last_step 0 (kids_of parent left) + 1)) refl
    ∙ ap (nat_lt LAST_STEP) (sym (needed_is place (kids_of parent left)))
  where
    after : Forest Body
    after = graft parent place (grown n at slug own below bare) left

    never : (t : Bool) → any_past (rows_of after) ≡ t →
        nat_lt LAST_STEP (last_step 0 (kids_of parent left) + 1) ≡ true →
        any_past (rows_of after) ≡ true
    never true e full = e
    never false e full =
        let room = graft_room LAST_STEP parent n at slug own below place left once among
        (rows_within after e) in
        absurd (grind (arith, nat_tests))

    by : (t : Bool) → nat_lt LAST_STEP (last_step 0 (kids_of parent left) + 1) ≡ t →
        any_past (rows_of after)
        ≡ nat_lt LAST_STEP (last_step 0 (kids_of parent left) + 1)
    by true full = never (any_past (rows_of after)) refl full ∙ sym full
    by false room =
        let most : count parent left ≤ 1 = omega (arith, once) in
        none_past None [] [] after refl
        (AreWithin-graft n at slug own below LAST_STEP parent 0 place left inside rising within
        (AtParent-kids parent (λ kids. last_step 0 kids + 1 ≤ LAST_STEP) left most
        (limit_clear LAST_STEP (last_step 0 (kids_of parent left) + 1) room)))
        ∙ sym room
