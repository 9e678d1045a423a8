-- What stands behind a page among the kids of its parent, and lists that a test splits.
use Rattle.std.proofs.Common.{◌≡◌, ◌⊎◌, inl, inr, ℕ, suc, ◌+◌, ◌-◌, ◌<◌, ◌≤◌, max, nat_lt, Bool, true, false, cond, not, nat_eq, ◌||◌, List, [], ◌∷◌, ◌++◌, Option, Some, map, length, slice_get, refl, ap, sym, ◌∙◌, subst, arith, append_assoc}
use Rattle.std.specs.List.{AllByRecursion}
use Rattle.std.proofs.lemmas.Bool.{cases_lt}
use Rattle.std.proofs.lemmas.Bool.Decides.{nat_tests}
use Rattle.std.proofs.lemmas.List.{map-append}
use Rattle.std.proofs.lemmas.List.Elements.{filter-append}
use Rattle.page_tree.specs.Tree.{Forest, bare, grown, Place, First, Before, End, AreRising, kids_of, last_step, without}
use Rattle.page_tree.specs.Walk.{kid_count}
use Rattle.page_tree.specs.Rows.{child_url, row_with, rows_below, rows_of}
use Rattle.site_types.specs.declared.body.Body.{Body}
use Rattle.tree_model.specs.Places.{before_first, place_behind}
use Rattle.tree_model.proofs.PlaceLemmas.{has_kid}
use Rattle.page_store.specs.PageRows.{IsRange}
use Rattle.page_store.specs.Pages.{Page, HasOtherId}
use Rattle.page_store.specs.Search.{begins}
use Rattle.page_store.proofs.PathOrder.{begins-self, begins-BeginsWith}
use Rattle.page_store.proofs.AllLemmas.{All-weaker}
use Rattle.page_store.proofs.RangeLemmas.{pairs_at}
use Rattle.page_store.proofs.WindowLemmas.{there_is}
use Rattle.step_path.specs.Path.{BeginsWith}
use Rattle.path_moves.specs.declared.spot.Spot.{Spot}
use Rattle.path_moves.specs.declared.spot.Spot.TheVariants.{First as AtFirst, Before as AtPlace, End as AtEnd}
use Rattle.tree_rows.specs.Cuts.{lower_row}
use Rattle.path_moves.specs.Spots.{place_past}
use Rattle.tree_rows.proofs.Paths.{rows_go_on, earlier_out}
use Rattle.tree_rows.proofs.SubtreeLemmas.{rows_begin, range_some}
use Rattle.path_moves.proofs.PlaceLemmas.{same_place}
use Rattle.path_moves.proofs.MoveLaws.{is_tree, left_is_tree}
use Rattle.path_moves.proofs.Windows.{between, failing, Passes, between_split, between_next, between_none, All-front, All-behind, All-narrower, fails_outside, passes_inside, none_fails}
use Rattle.path_moves.proofs.Remaining.{All-kept, same_parts, passes_range, found_id, lower_keeps}
use Rattle.path_moves.proofs.Landing.{Grounds, kept, together, kids_rows, rising_kids}

-- The rows of a kid among those of its siblings: its own and those below it, and behind them those
-- of the later siblings.
pub record BehindKid (id : ℕ) (parent : Option ℕ) (path url : List ℕ) (f : Forest Body) : Type 0 where
  pub front : List Page
  pub own : Page
  pub below : List Page
  pub rest : Forest Body
  pub rows_are : rows_below parent path url f
      ≡ front ++ (own ∷ (below ++ rows_below parent path url rest))
  pub id_is : own.id ≡ id
  pub behind_is : place_behind id f ≡ before_first rest
  pub inside : AllByRecursion (λ (row : Page). begins own.path row.path ≡ true) below
  pub after : AllByRecursion (λ (row : Page). begins own.path row.path ≡ false)
      (rows_below parent path url rest)

-- each kid has such rows
pub behind_kid : (id : ℕ) (parent : Option ℕ) (path url : List ℕ) (before : ℕ) (f : Forest Body) →
    AreRising before f → has_kid id f ≡ true → BehindKid id parent path url f
behind_kid id parent path url before bare rising there = absurd cc
behind_kid id parent path url before (grown i s slug body kids rest) rising there =
    by (nat_eq i id) refl there (behind_kid id parent path url s rest rising.2)
  where
    head : Page
    head = record {
      id = i;
      parent = parent;
      path = path ++ s ∷ [];
      url = child_url url slug;
      slug = slug;
      numchild = kid_count kids;
      body = body;
    }

    below : List Page
    below = rows_below (Some i) (path ++ s ∷ []) (child_url url slug) kids

    by : (t : Bool) → nat_eq i id ≡ t → t || has_kid id rest ≡ true →
        (has_kid id rest ≡ true → BehindKid id parent path url rest) →
        BehindKid id parent path url (grown i s slug body kids rest)
    by true e there more = record {
      front = [];
      own = head;
      below = below;
      rest = rest;
      rows_are = refl;
      id_is = grind (arith, nat_tests);
      behind_is = rw e refl;
      inside = All-weaker _ (λ (row : Page). begins (path ++ s ∷ []) row.path ≡ true)
          (λ (row : Page) on. begins-BeginsWith (path ++ s ∷ []) row.path on) _
          (rows_begin (Some i) (path ++ s ∷ []) (child_url url slug) kids);
      after = All-weaker _ (λ (row : Page). begins (path ++ s ∷ []) row.path ≡ false)
          (λ (row : Page) on. earlier_out path [] row.path s s (last_step s rest) (omega arith) on)
          _ (rows_go_on parent path url s rest rising.2);
    }
    by false e there more = let found = more there in record {
      front = head ∷ (below ++ found.front);
      own = found.own;
      below = found.below;
      rest = found.rest;
      rows_are = ap (λ rows. head ∷ (below ++ rows)) found.rows_are
          ∙ ap (λ rows. head ∷ rows) (sym (append_assoc below found.front
          (found.own ∷ (found.below ++ rows_below parent path url found.rest))));
      id_is = found.id_is;
      behind_is = rw e found.behind_is;
      inside = found.inside;
      after = found.after;
    }

-- rows that pass a test before rows that fail it are told by the list
pub split_by_test : (test : Page → Bool) (xs ys xs' ys' : List Page) →
    AllByRecursion (λ (row : Page). test row ≡ true) xs →
    AllByRecursion (λ (row : Page). test row ≡ false) ys →
    AllByRecursion (λ (row : Page). test row ≡ true) xs' →
    AllByRecursion (λ (row : Page). test row ≡ false) ys' → xs ++ ys ≡ xs' ++ ys' → ys ≡ ys'
split_by_test test [] ys [] ys' on out on' out' same = same
split_by_test test [] [] (x' ∷ xs') ys' on out on' out' same = absurd cc
split_by_test test [] (y ∷ ys) (x' ∷ xs') ys' on out on' out' same =
    let one : y ≡ x' = cc in
    let never : test y ≡ true = ap test one ∙ on'.0 in
    let fails = out.0 in absurd cc
split_by_test test (x ∷ xs) ys [] [] on out on' out' same = absurd cc
split_by_test test (x ∷ xs) ys [] (y' ∷ ys') on out on' out' same =
    let one : x ≡ y' = cc in
    let never : test y' ≡ true = ap test (sym one) ∙ on.0 in
    let fails = out'.0 in absurd cc
split_by_test test (x ∷ xs) ys (x' ∷ xs') ys' on out on' out' same =
    let tails : xs ++ ys ≡ xs' ++ ys' = cc in
    split_by_test test xs ys xs' ys' on.1 out on'.1 out' tails

-- what does not look at the child count holds of lowered rows
pub All-lowered : (P : ℕ → List ℕ → Type 0) (parent : Option ℕ) (rows : List Page) →
    AllByRecursion (λ (row : Page). P row.id row.path) rows →
    AllByRecursion (λ (row : Page). P row.id row.path) (map (lower_row parent) rows)
All-lowered P parent [] all = tt
All-lowered P parent (row ∷ rows) all = (
  subst (λ id. P id (lower_row parent row).path) (sym (lower_keeps parent row).0)
      (subst (P row.id) (sym (lower_keeps parent row).1) all.0),
  All-lowered P parent rows all.1,
)
