-- A move that is planned leads to the rows of a store.
use Rattle.std.proofs.Common.{◌≡◌, ℕ, ◌+◌, ◌≤◌, Bool, true, false, cond, nat_eq, nat_lt, List, [], ◌∷◌, Option, Some, None, Ok, Err, map, refl, sym, ◌∙◌, subst, arith}
use Rattle.std.specs.List.{IsDistinct}
use Rattle.std.proofs.lemmas.Bool.Decides.{nat_tests}
use Rattle.site_types.specs.declared.body.Body.{Body}
use Rattle.site_types.specs.declared.position.Position.{Position}
use Rattle.page_tree.specs.Tree.{Forest, bare, grown, Place, First, Before, End, AllIds, AreRising, HasDistinctIds, kids_of, last_step, step_needed, node_of, without, graft}
use Rattle.page_tree.specs.Rows.{rows_of, row_with}
use Rattle.step_path.specs.declared.path.TheConstants.{MAX_DEPTH}
use Rattle.step_path.specs.declared.step.TheConstants.{LAST_STEP}
use Rattle.tree_model.specs.Limits.{height, is_full, is_too_deep}
use Rattle.tree_model.specs.Places.{parent_at, place_at, moved_to, leads_into_itself}
use Rattle.tree_model.specs.Shape.{AreWithin}
use Rattle.tree_model.proofs.CountLemmas.{count, distinct_ids, same_id, told_apart, not_first, apart_by_test, cut_counts, IsNode, node_found}
use Rattle.tree_model.proofs.MoveLemmas.{Lands}
use Rattle.tree_model.proofs.PlaceLemmas.{AtParent-kids, IsAmong, graft_counts}
use Rattle.tree_model.proofs.SiblingLemmas.{AreRising-without, AreRising-node_of, AreRising-graft, AreWithin-without, AreWithin-node_of, AreWithin-graft}
use Rattle.page_store.specs.declared.plan.MovePlan.{MovePlan}
use Rattle.page_store.specs.Pages.{Page, EachPair, HasOtherId, ArePages}
use Rattle.page_store.proofs.AllLemmas.{All-map, All-weaker}
use Rattle.page_store.proofs.SeenLemmas.{found_by_own_id}
use Rattle.path_moves.specs.declared.fault.PathFault.TheVariants.{IntoItself, StepsFull, TooDeep}
use Rattle.path_moves.specs.Plans.{plan_of, planned_move}
use Rattle.tree_rows.proofs.Apart.{Lacks, AreApart, AreApart-distinct}
use Rattle.path_moves.proofs.ApplyKept.{AllPlaced, placed_from_rows, placed-without, placed-node_of, placed-graft}
use Rattle.path_moves.proofs.ApplyLands.{root-graft, root-without}
use Rattle.path_moves.proofs.ApplySlugs.{IsAt, StandsAt, GoesBelow}
use Rattle.path_moves.proofs.CallLemmas.{ids_of-rows}
use Rattle.tree_rows.proofs.SiteTree.{rising_tree}
use Rattle.path_moves.proofs.TreePages.{HasRoot, root_from_rows, within_from_rows}
pub use Rattle.path_moves.proofs.MoveLaws.{distinct_rows}

-- the ids of a store's tree are distinct
pub distinct_tree : (tree : Forest Body) → ArePages (rows_of tree) → HasDistinctIds tree
distinct_tree tree are =
    subst (λ ids. IsDistinct nat_eq ids) (ids_of-rows None [] [] tree)
    (distinct_rows (rows_of tree) are.own_ids)

-- no page has the id 0 where each id is at least 1
pub no_zero : (f : Forest Body) → AllIds (λ i. 1 ≤ i) f → count 0 f ≡ 0
no_zero bare all = refl
no_zero (grown i s slug body kids rest) all =
    let positive = all.0 in
    let differs = told_apart i 0 (λ same. let no : ⊥ = omega (arith, positive, same) in no) in
    rw (differs, no_zero kids all.1, no_zero rest all.2) (omega arith)

-- a page that is counted nowhere is no page's
lacks_from_count : (id : ℕ) (f : Forest Body) → count id f ≡ 0 → Lacks id f
lacks_from_count id bare none = tt
lacks_from_count id (grown i s slug body kids rest) none = (
  apart_by_test i id (not_first id i (count id kids + count id rest) none),
  lacks_from_count id kids (omega (arith, none)),
  lacks_from_count id rest (omega (arith, none)),
)

-- What a plan that there is says of its move: no rule refuses it.
pub record IsClear (tree : Forest Body) (page target : ℕ) (position : Position) : Type 0 where
  pub outside : leads_into_itself tree page target position ≡ false
  pub room : is_full (without page tree) (parent_at tree target position)
      (place_at (without page tree) target position) ≡ false
  pub shallow : is_too_deep (moved_to tree page target position) ≡ false

-- the tests of a plan, one by one
tests_clear : (a b c : Bool) (made plan : MovePlan) →
    cond a (Err IntoItself) (cond b (Err StepsFull) (cond c (Err TooDeep) (Ok made)))
    ≡ Ok plan → (a ≡ false) × (b ≡ false) × (c ≡ false) × (made ≡ plan)
tests_clear true b c made plan is = absurd cc
tests_clear false true c made plan is = absurd cc
tests_clear false false true made plan is = absurd cc
tests_clear false false false made plan is = (refl, refl, refl, cc)

-- a plan that there is comes from a move that no rule refuses
pub planned_clear : (tree : Forest Body) (page target : ℕ) (position : Position) (plan : MovePlan) →
    planned_move tree page target position ≡ Ok plan →
    IsClear tree page target position × (plan_of tree page target position ≡ plan)
planned_clear tree page target position plan is =
    let tests = tests_clear _ _ _ (plan_of tree page target position) plan is in
    (record { outside = tests.0; room = tests.1; shallow = tests.2 }, tests.3)

-- the step that a place needs is one behind the last
pub room_told : (last : ℕ) (place : Place) (kids : Forest Body) →
    nat_lt last (step_needed place kids) ≡ false → last_step 0 kids + 1 ≤ last
room_told last First kids room = grind (arith, nat_tests)
room_told last (Before sibling) kids room = grind (arith, nat_tests)
room_told last End kids room = grind (arith, nat_tests)

-- a number that is not above a limit is within it
pub within_limit : (limit n : ℕ) → nat_lt limit n ≡ false → n ≤ limit
within_limit limit n not_above = grind (arith, nat_tests)

-- What a move keeps of a tree of pages.
pub record IsAfter (tree : Forest Body) (page parent : ℕ) (after : Forest Body) : Type 0 where
  pub root : HasRoot after
  pub apart : AreApart after
  pub rising : AreRising 0 after
  pub steps : AreWithin LAST_STEP after
  pub depth : height after ≤ MAX_DEPTH
  pub stand : AllPlaced (IsAt (rows_of tree) page) None after
  pub below : AllPlaced (λ id q slug body. GoesBelow page parent id q) None after

-- each page stands where it does before the move
placed_before : (page : ℕ) (tree : Forest Body) → ArePages (rows_of tree) →
    AllPlaced (IsAt (rows_of tree) page) None tree
placed_before page tree are =
    placed_from_rows (IsAt (rows_of tree) page) None [] [] tree
    (All-weaker (λ (row : Page). row_with row.id (rows_of tree) ≡ Some row)
    (StandsAt (rows_of tree) page)
    (λ row found. record {
      old = row;
      found = found;
      slug_is = refl;
      body_is = refl;
      keeps = λ other. refl;
    }) (rows_of tree) (found_by_own_id (rows_of tree) are.own_ids))

-- among pages that are not the one that moves, none is bound to a new parent
none_goes : (page parent : ℕ) (q : Option ℕ) (f : Forest Body) → Lacks page f →
    AllPlaced (λ id q slug body. GoesBelow page parent id q) q f
none_goes page parent q bare lacks = tt
none_goes page parent q (grown i s slug body kids rest) lacks = (
  λ same. absurd (lacks.0 (sym same)),
  none_goes page parent (Some i) kids lacks.1,
  none_goes page parent q rest lacks.2,
)

module _ (tree : Forest Body) (page parent : ℕ) (place : Place) (are : ArePages (rows_of tree))
    (each : (j : ℕ) → count j tree ≤ 1) (here : 1 ≤ count page tree)
    (lands : Lands (without page tree) parent place) where
  -- the page that is cut out
  abbrev node : IsNode page (node_of page tree)
  node = node_found page tree here

  -- the same, written out
  abbrev alone : Forest Body
  alone = grown page node.step node.slug node.body node.kids bare

  -- each id stands as often behind the move as before it
  counts_after : (j : ℕ) → count j (graft parent place alone (without page tree)) ≡ count j tree
  counts_after j =
      let most : count parent (without page tree) ≤ 1 = omega (arith, lands.one_parent) in
      let sum = graft_counts j parent place page node.step node.slug node.body node.kids
      (without page tree) lands.one_parent
      (AtParent-kids parent (IsAmong place) (without page tree) most lands.among) in
      let cut = subst (λ f. count j tree ≡ count j f + count j (without page tree)) node.is
      (cut_counts page j tree (each page)) in
      sum ∙ sym cut

  -- the page is not among those that are left, nor below itself
  pub left_lacks : Lacks page (without page tree) × Lacks page node.kids
  left_lacks =
      let cut = subst (λ f. count page tree ≡ count page f + count page (without page tree)) node.is
      (cut_counts page page tree (each page)) in
      let own = same_id page in
      let sum : count page tree ≡ 1 + (count page node.kids + 0) + count page (without page tree) =
      rw own at cut in
      let most = each page in (
        lacks_from_count page (without page tree) (omega (arith, sum, most)),
        lacks_from_count page node.kids (omega (arith, sum, most)),
      )

  -- what a move keeps, where there is room
  pub kept_after : (1 ≡ page → ⊥) →
      last_step 0 (kids_of parent (without page tree)) + 1 ≤ LAST_STEP →
      height (graft parent place (node_of page tree) (without page tree)) ≤ MAX_DEPTH →
      IsAfter tree page parent (graft parent place (node_of page tree) (without page tree))
  kept_after other room deep =
      let left = without page tree in
      let most : count parent left ≤ 1 = omega (arith, lands.one_parent) in
      let rising = rising_tree tree are in
      let steps = within_from_rows None [] [] tree are.paths in
      let own_rising = subst (λ f. AreRising 0 f) node.is (AreRising-node_of page 0 tree rising) in
      let own_steps = subst (λ f. AreWithin LAST_STEP f) node.is
      (AreWithin-node_of LAST_STEP page tree steps) in
      let left_rising = AreRising-without page 0 tree rising in
      let placed = placed_before page tree are in
      record {
        root = root-graft parent place (node_of page tree) left
            (root-without page tree other (root_from_rows tree are.root));
        apart = subst (λ f. AreApart (graft parent place f left)) (sym node.is)
            (AreApart-distinct _ (distinct_ids _ (λ j.
            let same = counts_after j in
            let once = each j in omega (arith, same, once))));
        rising = subst (λ f. AreRising 0 (graft parent place f left)) (sym node.is)
            (AreRising-graft page node.step node.slug node.body node.kids parent 0 place left
            own_rising.1 left_rising);
        steps = subst (λ f. AreWithin LAST_STEP (graft parent place f left)) (sym node.is)
            (AreWithin-graft page node.step node.slug node.body node.kids LAST_STEP parent 0 place
            left own_steps.1 left_rising (AreWithin-without LAST_STEP page tree steps)
            (AtParent-kids parent (λ kids. last_step 0 kids + 1 ≤ LAST_STEP) left most room));
        depth = deep;
        stand = placed-graft (IsAt (rows_of tree) page) parent place (node_of page tree) None left
            (placed-node_of (IsAt (rows_of tree) page) page None (Some parent) tree
            (λ old slug body at. record {
              old = at.old;
              found = at.found;
              slug_is = at.slug_is;
              body_is = at.body_is;
              keeps = λ differ. absurd (differ refl);
            }) placed)
            (placed-without (IsAt (rows_of tree) page) page None tree placed);
        below = subst (λ f. AllPlaced (λ id q slug body. GoesBelow page parent id q) None
            (graft parent place f left)) (sym node.is)
            (placed-graft (λ id q slug body. GoesBelow page parent id q) parent place alone None
            left ((λ same. refl), none_goes page parent (Some page) node.kids left_lacks.1, tt)
            (none_goes page parent None left left_lacks.0));
      }
