-- What the call that applies a plan owes and gets.
use Rattle.std.proofs.Common.{◌≡◌, ℕ, ◌+◌, ◌≤◌, Bool, true, false, not, cond, nat_eq, List, [], ◌∷◌, Option, Some, None, IsSome, map, filter, length, refl, ap, sym, ◌∙◌, subst, rules}
use Rattle.std.specs.List.{AllByRecursion, IsDistinct}
use Rattle.std.specs.Option.{option_map, IfSome}
use Rattle.std.specs.Str.{bytes_eq}
use Rattle.site_types.specs.declared.body.Body.{Body}
use Rattle.site_types.specs.declared.position.Position.{Position}
use Rattle.page_tree.specs.Tree.{Forest, without}
use Rattle.page_tree.specs.Rows.{rows_of, row_with, kid_named}
use Rattle.page_tree.proofs.RowLemmas.{has_page-rows}
use Rattle.tree_model.specs.Changes.{path_in, changed_paths, with_urls}
use Rattle.tree_model.specs.Places.{parent_at, place_at, moved_to}
use Rattle.page_store.specs.declared.plan.MovePlan.{MovePlan}
use Rattle.page_store.specs.PageRows.{IsRange}
use Rattle.page_store.specs.Pages.{Page, EachPair, HasOtherId, ArePages}
use Rattle.page_store.specs.Relabelling.{relabelled_rows, AreListed, first_moved, KeepParents}
use Rattle.page_store.proofs.AllLemmas.{All-map, All-weaker}
use Rattle.path_moves.specs.Applying.{IsMovable, IsPlanned, IsFree}
use Rattle.tree_rows.specs.Cuts.{place_of}
use Rattle.path_moves.proofs.ApplyAfter.{IsClear, distinct_rows, planned_clear}
use Rattle.path_moves.proofs.ApplyKept.{rows_from_placed}
use Rattle.path_moves.proofs.ApplyMatched.{Stays, relabelled_are}
use Rattle.path_moves.proofs.ApplyPages.{after_is_pages, move_done, labelled_pages}
use Rattle.path_moves.proofs.ApplyPlace.{row_ids, move_in_place}
use Rattle.path_moves.proofs.ApplySlugs.{IsAt, StandsAt}

-- what holds of each row holds of each of some
all_some : (P : Page → Type 0) (keep : Page → Bool) (rows : List Page) → AllByRecursion P rows →
    AllByRecursion P (filter keep rows)
all_some P keep [] all = tt
all_some P keep (row ∷ rows) all = by (keep row) (all_some P keep rows all.1)
  where
    by : (t : Bool) → AllByRecursion P (filter keep rows) →
        AllByRecursion P (cond t (row ∷ filter keep rows) (filter keep rows))
    by true more = (all.0, more)
    by false more = more

-- the ids of some of these rows are distinct where those of all are
distinct_some : (keep : Page → Bool) (rows : List Page) → EachPair HasOtherId rows →
    EachPair HasOtherId (filter keep rows)
distinct_some keep [] own = tt
distinct_some keep (row ∷ rows) own = by (keep row) (distinct_some keep rows own.1)
  where
    by : (t : Bool) → EachPair HasOtherId (filter keep rows) →
        EachPair HasOtherId (cond t (row ∷ filter keep rows) (filter keep rows))
    by true more = (all_some (HasOtherId row) keep rows own.0, more)
    by false more = more

-- each pair of rows and paths has the row's id
ids_of_pairs : (path : Page → List ℕ) (rows : List Page) →
    map (λ (pair : ℕ × List ℕ). pair.0) (map (λ (row : Page). (row.id, path row)) rows)
    ≡ row_ids rows
ids_of_pairs path [] = refl
ids_of_pairs path (row ∷ rows) = ap (λ ids. row.id ∷ ids) (ids_of_pairs path rows)

-- a page that stands somewhere behind a move was there
was_there : (before : List Page) (page : ℕ) (row : Page) → StandsAt before page row →
    IsSome (row_with row.id before)
was_there before page row at = rw at.found (search rules)

-- the pages whose path changes were there, each listed once
paths_are_listed : (before after : List Page) (page : ℕ) → EachPair HasOtherId after →
    AllByRecursion (StandsAt before page) after → AreListed before (changed_paths before after)
paths_are_listed before after page own stand =
    record {
      there = All-map (λ (pair : ℕ × List ℕ). IsSome (row_with pair.0 before))
          (λ (row : Page). (row.id, row.path))
          (filter (λ (row : Page). not (bytes_eq (path_in row.id before) row.path)) after)
          (all_some (λ (row : Page). IsSome (row_with row.id before))
          (λ (row : Page). not (bytes_eq (path_in row.id before) row.path)) after
          (All-weaker (StandsAt before page) (λ (row : Page). IsSome (row_with row.id before))
          (was_there before page) after stand));
      once = subst (λ ids. IsDistinct nat_eq ids)
          (sym (ids_of_pairs (λ (row : Page). row.path)
          (filter (λ (row : Page). not (bytes_eq (path_in row.id before) row.path)) after)))
          (distinct_rows
          (filter (λ (row : Page). not (bytes_eq (path_in row.id before) row.path)) after)
          (distinct_some (λ (row : Page). not (bytes_eq (path_in row.id before) row.path)) after
          own));
    }

-- each page but the one that moved keeps its parent, whatever its URL
parents_kept : (before after : List Page) (page : ℕ) (urls : List (ℕ × List ℕ)) →
    AllByRecursion (StandsAt before page) after →
    KeepParents (Some page) before (with_urls urls before after)
parents_kept before after page urls stand =
    All-map (λ (row : Page). (Some page ≡ Some row.id → ⊥) →
    option_map (λ (old : Page). old.parent) (row_with row.id before) ≡ Some row.parent) _ after
    (All-weaker (StandsAt before page) (λ (row : Page). (Some page ≡ Some row.id → ⊥) →
    option_map (λ (old : Page). old.parent) (row_with row.id before) ≡ Some row.parent)
    (λ row at other. rw at.found (ap Some (at.keeps (λ same. other (ap Some same))))) after stand)

-- What the call owes and gets, over plain lists.
pub record IsCall (pages : List Page) (paths urls : List (ℕ × List ℕ)) (from n to : ℕ)
    (after : List Page) : Type 0 where
  pub to_within : to + n ≤ length pages
  pub listed : AreListed pages paths
  pub result : relabelled_rows from n to paths urls pages ≡ with_urls urls pages after
  pub are_pages : ArePages (relabelled_rows from n to paths urls pages)
  pub parents : KeepParents (first_moved from n pages) pages
      (relabelled_rows from n to paths urls pages)

-- the call in the rows of a tree
call_in_tree : (tree : Forest Body) (page target : ℕ) (position : Position)
    (urls : List (ℕ × List ℕ)) (row : Page) (from n : ℕ) →
    ArePages (rows_of tree) → IsMovable tree page target position →
    IsClear tree page target position →
    IfSome (row_with page (rows_of tree))
    (λ row. IfSome (kid_named (parent_at tree target position) row.slug (rows_of tree))
    (λ kid. kid ≡ page)) →
    row_with page (rows_of tree) ≡ Some row → IsRange (rows_of tree) row from n →
    IsCall (rows_of tree)
    (changed_paths (rows_of tree) (rows_of (moved_to tree page target position))) urls from n
    (place_of page (rows_of (moved_to tree page target position)))
    (rows_of (moved_to tree page target position))
call_in_tree tree page target position urls row from n are movable clear free found range =
    let before = rows_of tree in
    let after_tree = moved_to tree page target position in
    let after = rows_of after_tree in
    let parent = parent_at tree target position in
    let place = place_at (without page tree) target position in
    let done = move_done tree page target position are movable clear in
    let later = after_is_pages tree page parent after_tree are done.after free in
    let at = move_in_place tree page parent place row from n are found range done.each done.here
    done.lands in
    let stand = rows_from_placed (IsAt before page) None [] [] after_tree done.after.stand in
    let stay = All-weaker (StandsAt before page) (Stays before) (λ (r : Page) one. record {
      old = one.old;
      found = one.found;
      slug_is = one.slug_is;
      body_is = one.body_is;
    }) after stand in
    let result = relabelled_are from n (place_of page after) urls before after are later at.order
    stay in
    record {
      to_within = at.within;
      listed = paths_are_listed before after page later.own_ids stand;
      result = result;
      are_pages = subst ArePages (sym result) (labelled_pages _ after later);
      parents = subst (λ top. KeepParents top before
          (relabelled_rows from n (place_of page after) (changed_paths before after) urls before))
          (sym at.first)
          (subst (KeepParents (Some page) before) (sym result)
          (parents_kept before after page urls stand));
    }

-- The call in the rows of a store, for each move that the plan is one of.
pub call_is : (pages : List Page) (plan : MovePlan) (tree : Forest Body) (target : ℕ)
    (position : Position) (urls : List (ℕ × List ℕ)) (from n : ℕ) →
    ArePages pages → IsPlanned pages plan tree target position → IsFree plan pages →
    IsSome (row_with plan.page pages) →
    IfSome (row_with plan.page pages) (λ row. IsRange pages row from n) →
    IsCall pages plan.rows urls from n plan.place
    (rows_of (moved_to tree plan.page target position))
call_is pages plan tree target position urls from n are planned free there range =
    let clear = planned_clear tree plan.page target position plan planned.planned in
    let parent_is : parent_at tree target position ≡ plan.parent =
    ap (λ (p : MovePlan). p.parent) clear.1 in
    let place_is : place_of plan.page (rows_of (moved_to tree plan.page target position))
    ≡ plan.place =
    ap (λ (p : MovePlan). p.place) clear.1 in
    let rows_is : changed_paths (rows_of tree)
    (rows_of (moved_to tree plan.page target position)) ≡ plan.rows =
    ap (λ (p : MovePlan). p.rows) clear.1 in
    rw (planned.rows_are, ← place_is, ← rows_is) (by (row_with plan.page (rows_of tree)) refl
    (subst (λ rows. ArePages rows) planned.rows_are are)
    (subst (λ rows. IsSome (row_with plan.page rows)) planned.rows_are there)
    (subst (λ rows. IfSome (row_with plan.page rows) (λ row. IsRange rows row from n))
    planned.rows_are range)
    (subst (λ rows. IfSome (row_with plan.page rows)
    (λ row. IfSome (kid_named (parent_at tree target position) row.slug rows)
    (λ kid. kid ≡ plan.page))) planned.rows_are
    (subst (λ parent. IfSome (row_with plan.page pages)
    (λ row. IfSome (kid_named parent row.slug pages) (λ kid. kid ≡ plan.page))) (sym parent_is)
    free)) clear.0)
  where
    by : (o : Option Page) → row_with plan.page (rows_of tree) ≡ o → ArePages (rows_of tree) →
        IsSome o → IfSome o (λ row. IsRange (rows_of tree) row from n) →
        IfSome (row_with plan.page (rows_of tree))
        (λ row. IfSome (kid_named (parent_at tree target position) row.slug (rows_of tree))
        (λ kid. kid ≡ plan.page)) →
        IsClear tree plan.page target position →
        IsCall (rows_of tree)
        (changed_paths (rows_of tree) (rows_of (moved_to tree plan.page target position))) urls
        from n (place_of plan.page (rows_of (moved_to tree plan.page target position)))
        (rows_of (moved_to tree plan.page target position))
    by None e are some range free clear = absurd (search rules)
    by (Some row) e are some range free clear =
        call_in_tree tree plan.page target position urls row from n are planned.movable clear free e
        range

-- a page that is planned to move is there
pub planned_there : (pages : List Page) (plan : MovePlan) (tree : Forest Body) (target : ℕ)
    (position : Position) → IsPlanned pages plan tree target position →
    IsSome (row_with plan.page pages)
planned_there pages plan tree target position planned =
    rw planned.rows_are
    (sym (has_page-rows plan.page None [] [] tree) ∙ planned.movable.page_there)

-- a move that the plan is one of
abbrev pub IsMade : List Page → MovePlan → Type 0
IsMade pages plan =
    (tree : Forest Body) × (target : ℕ) × (position : Position)
    × IsPlanned pages plan tree target position

-- what the call owes where the plan is that of some move
pub owed : (pages : List Page) (plan : MovePlan) (urls : List (ℕ × List ℕ)) (from n : ℕ) →
    ArePages pages → (made : IsMade pages plan) → IsFree plan pages →
    IfSome (row_with plan.page pages) (λ row. IsRange pages row from n) →
    IsCall pages plan.rows urls from n plan.place
    (rows_of (moved_to made.0 plan.page made.1 made.2))
owed pages plan urls from n are made free range =
    call_is pages plan made.0 made.1 made.2 urls from n are made.3 free
    (planned_there pages plan made.0 made.1 made.2 made.3) range

-- what the call gets, for each move that the plan is one of
pub applied : (pages new : List Page) (plan : MovePlan) (urls : List (ℕ × List ℕ)) (from n : ℕ)
    (tree : Forest Body) (target : ℕ) (position : Position) →
    ArePages pages → IsPlanned pages plan tree target position → IsFree plan pages →
    IfSome (row_with plan.page pages) (λ row. IsRange pages row from n) →
    new ≡ relabelled_rows from n plan.place plan.rows urls pages →
    new ≡ with_urls urls (rows_of tree) (rows_of (moved_to tree plan.page target position))
applied pages new plan urls from n tree target position are planned free range is =
    let call = call_is pages plan tree target position urls from n are planned free
    (planned_there pages plan tree target position planned) range in
    is ∙ (call.result ∙ ap (λ before. with_urls urls before
    (rows_of (moved_to tree plan.page target position))) planned.rows_are)
