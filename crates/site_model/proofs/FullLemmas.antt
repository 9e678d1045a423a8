-- A graft has a step past the last exactly where no step is left at its place.
use Rattle.std.proofs.Common.{◌≡◌, ◌+◌, ◌≤◌, ℕ, Bool, true, false, List, nat_lt, refl, sym, subst, ◌∙◌, arith}
use Rattle.std.specs.List.{list_any}
use Rattle.std.proofs.lemmas.Bool.Decides.{nat_tests}
use Rattle.page_tree.specs.Tree.{Forest, bare, grown, Place, First, Before, End, AreRising, kids_of, last_step, without, graft}
use Rattle.page_tree.specs.Rows.{Row, rows_of}
use Rattle.step_path.specs.declared.step.TheConstants.{LAST_STEP}
use Rattle.site_types.specs.declared.body.Body.{Body}
use Rattle.site_types.specs.declared.position.Position.{Position}
use Rattle.tree_model.specs.Limits.{is_full}
use Rattle.tree_model.specs.Places.{parent_at, place_at, moved_to}
use Rattle.tree_model.specs.Shape.{AreWithin}
use Rattle.tree_model.proofs.CountLemmas.{count, node_found}
use Rattle.tree_model.proofs.MoveLemmas.{Lands}
use Rattle.tree_model.proofs.PlaceLemmas.{IsAmong, AtParent-kids}
use Rattle.tree_model.proofs.SiblingLemmas.{AreRising-without, AreWithin-without, AreWithin-node_of, AreWithin-graft}
use Rattle.site_model.proofs.ClearLemmas.{limit_clear}
use Rattle.site_model.proofs.RoomLemmas.{graft_room}
use Rattle.site_model.proofs.RowLemmas.{rows_within, within_rows}
use Rattle.tree_model.proofs.PlaceLemmas.{full_told}

module _ {Body : Type 0} where
  -- whether a row has a step past the last
  abbrev pub has_past_step : List (Row Body) → Bool
  has_past_step rows =
      list_any (λ (row : Row Body). list_any (λ step. nat_lt LAST_STEP step) row.path) rows

  -- one more below a parent that stands once
  pub graft_is_full : (tree : Forest Body) (parent n at : ℕ) (slug : List ℕ) (own : Body)
      (below : Forest Body) (place : Place) → count parent tree ≡ 1 →
      IsAmong place (kids_of parent tree) → AreRising 0 tree → AreWithin LAST_STEP tree →
      AreWithin LAST_STEP below →
      has_past_step (rows_of (graft parent place (grown n at slug own below bare) tree))
      ≡ is_full tree parent place
  graft_is_full tree parent n at slug own below place once among rising steps inner =
      choice (is_full tree parent place) refl
      (has_past_step (rows_of (graft parent place (grown n at slug own below bare) tree))) refl
    where
      no_room : (step : ℕ) → step ≤ LAST_STEP → nat_lt LAST_STEP step ≡ true → ⊥
      no_room step room full = grind (arith, nat_tests, room, full)

      choice : (full : Bool) → is_full tree parent place ≡ full → (past : Bool) →
          has_past_step (rows_of (graft parent place (grown n at slug own below bare) tree))
          ≡ past →
          past ≡ full
      choice false is past found =
          let room = limit_clear LAST_STEP (last_step 0 (kids_of parent tree) + 1)
          (sym (full_told tree parent place) ∙ is) in
          sym found
          ∙ within_rows (graft parent place (grown n at slug own below bare) tree)
          (AreWithin-graft n at slug own below LAST_STEP parent 0 place tree inner rising steps
          (AtParent-kids parent (λ kids. last_step 0 kids + 1 ≤ LAST_STEP) tree
          (omega (arith, once)) room))
      choice true is true found = refl
      choice true is false found =
          let room = graft_room LAST_STEP parent n at slug own below place tree once among
          (rows_within (graft parent place (grown n at slug own below bare) tree) found) in
          let full = sym (full_told tree parent place) ∙ is in
          absurd (no_room (last_step 0 (kids_of parent tree) + 1) room full)

-- a page that is moved to a place in what the cut leaves
pub move_is_full : (tree : Forest Body) (page target : ℕ) (position : Position) →
    1 ≤ count page tree → AreRising 0 tree → AreWithin LAST_STEP tree →
    Lands (without page tree) (parent_at tree target position)
    (place_at (without page tree) target position) →
    has_past_step (rows_of (moved_to tree page target position))
    ≡ is_full (without page tree) (parent_at tree target position)
    (place_at (without page tree) target position)
move_is_full tree page target position found rising steps lands =
    let left = without page tree in
    let parent = parent_at tree target position in
    let place = place_at left target position in
    let node = node_found page tree found in
    let inner = subst (λ f. AreWithin LAST_STEP f) node.is
    (AreWithin-node_of LAST_STEP page tree steps) in
    subst (λ f. has_past_step (rows_of (graft parent place f left)) ≡ is_full left parent place)
    (sym node.is)
    (graft_is_full left parent page node.step node.slug node.body node.kids place lands.one_parent
    lands.among (AreRising-without page 0 tree rising) (AreWithin-without LAST_STEP page tree steps)
    inner.1)
