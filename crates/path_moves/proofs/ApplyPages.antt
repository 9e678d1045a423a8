-- The rows behind a planned move are those of a store, also with the URLs of a list.
use Rattle.std.proofs.Common.{◌≡◌, ℕ, ◌≤◌, Bool, true, false, cond, nat_eq, List, [], ◌∷◌, Some, None, IsSome, map, find, filter, length, refl, ap, ◌∙◌, subst, arith}
use Rattle.std.specs.List.{AllByRecursion}
use Rattle.std.specs.Option.{option_map, IfSome}
use Rattle.std.specs.Str.{bytes_eq}
use Rattle.site_types.specs.Ids.{IsPageId}
use Rattle.site_types.specs.declared.body.Body.{Body}
use Rattle.site_types.specs.declared.position.Position.{Position}
use Rattle.page_tree.specs.Tree.{Forest, kids_of, without}
use Rattle.page_tree.specs.Rows.{rows_of, row_with, kid_named, kids_in, is_parent}
use Rattle.step_path.specs.Path.{IsPath}
use Rattle.step_path.specs.declared.path.TheConstants.{MAX_DEPTH}
use Rattle.step_path.specs.declared.step.TheConstants.{LAST_STEP}
use Rattle.tree_model.specs.Changes.{with_url}
use Rattle.tree_model.specs.Limits.{height}
use Rattle.tree_model.specs.Places.{parent_at, place_at, moved_to}
use Rattle.tree_model.proofs.CountLemmas.{count, once, has_counts}
use Rattle.tree_model.proofs.MoveLemmas.{Lands}
use Rattle.page_store.specs.PageRows.{parent_id, above}
use Rattle.page_store.specs.Pages.{Page, EachPair, IsBefore, HasOtherId, HasOtherSlug, StartsAtRoot, ArePages}
use Rattle.page_store.proofs.AllLemmas.{All-map, All-weaker}
use Rattle.page_store.proofs.SeenLemmas.{All-find, found_by_own_id}
use Rattle.path_moves.specs.Applying.{IsMovable}
use Rattle.path_moves.proofs.ApplyAfter.{IsClear, IsAfter, distinct_tree, no_zero, room_told, within_limit, kept_after}
use Rattle.path_moves.proofs.ApplyKept.{rows_from_placed}
use Rattle.path_moves.proofs.ApplyLands.{not_root, move_lands}
use Rattle.path_moves.proofs.ApplySlugs.{IsAt, StandsAt, GoesBelow, found_id, slugs_after}
use Rattle.tree_rows.proofs.SiteTree.{AllIds-rows}
use Rattle.path_moves.proofs.TreePages.{root_from_rows, starts_at_root, rows_in_order, rows_own_ids, rows_paths}
use Rattle.path_moves.proofs.TreeParents.{parents_told, counts_told}

-- a page that was there has an id in its range
id_fits : (before : List Page) (page : ℕ) (row : Page) →
    AllByRecursion (λ (r : Page). IsPageId r.id) before → StandsAt before page row → IsPageId row.id
id_fits before page row fit at =
    subst IsPageId (found_id row.id before at.old at.found)
    (All-find (λ (r : Page). IsPageId r.id) (λ (r : Page). nat_eq r.id row.id) before at.old fit
    at.found)

-- the rows of a tree that a move leads to are those of a store
pub after_is_pages : (tree : Forest Body) (page parent : ℕ) (after : Forest Body) →
    ArePages (rows_of tree) → IsAfter tree page parent after →
    IfSome (row_with page (rows_of tree))
    (λ row. IfSome (kid_named parent row.slug (rows_of tree)) (λ kid. kid ≡ page)) →
    ArePages (rows_of after)
after_is_pages tree page parent after are is free =
    let stand = rows_from_placed (IsAt (rows_of tree) page) None [] [] after is.stand in
    let below = rows_from_placed (λ id q slug body. GoesBelow page parent id q) None [] [] after
    is.below in
    let deep = is.depth in
    let paths = rows_paths None [] [] 0 after tt is.rising is.steps (omega (arith, deep)) in
    let order = rows_in_order None [] [] 0 after is.rising in
    let ids = rows_own_ids None [] [] after is.apart in
    record {
      root = starts_at_root after is.root;
      ids_fit = All-weaker (StandsAt (rows_of tree) page) (λ (row : Page). IsPageId row.id)
          (λ row at. id_fits (rows_of tree) page row are.ids_fit at) (rows_of after) stand;
      paths = paths;
      in_order = order;
      own_ids = ids;
      parents = parents_told after order paths;
      counts = counts_told after is.rising is.apart (found_by_own_id (rows_of after) ids);
      own_slugs = slugs_after (rows_of tree) page parent are.own_slugs free (rows_of after) ids
          stand below;
    }

-- What is known of a move that is planned: its page was there, it lands, and what it keeps.
pub record IsDone (tree : Forest Body) (page target : ℕ) (position : Position) : Type 0 where
  pub here : 1 ≤ count page tree
  pub each : (j : ℕ) → count j tree ≤ 1
  pub lands : Lands (without page tree) (parent_at tree target position)
      (place_at (without page tree) target position)
  pub after : IsAfter tree page (parent_at tree target position)
      (moved_to tree page target position)

-- a move that no rule refuses
pub move_done : (tree : Forest Body) (page target : ℕ) (position : Position) →
    ArePages (rows_of tree) → IsMovable tree page target position →
    IsClear tree page target position → IsDone tree page target position
move_done tree page target position are movable clear =
    let parent = parent_at tree target position in
    let place = place_at (without page tree) target position in
    let root = root_from_rows tree are.root in
    let each = once tree (distinct_tree tree are) in
    let here = has_counts page tree movable.page_there in
    let positive = AllIds-rows (λ i. 1 ≤ i) None [] [] tree
    (All-weaker (λ (row : Page). IsPageId row.id) (λ (row : Page). 1 ≤ row.id) (λ row fits. fits.0)
    (rows_of tree) are.ids_fit) in
    let lands = move_lands tree page target position root (no_zero tree positive) each movable
    clear.outside in
    record {
      here = here;
      each = each;
      lands = lands;
      after = kept_after tree page parent place are each here lands
          (not_root tree page target position root movable clear.outside)
          (room_told LAST_STEP place (kids_of parent (without page tree)) clear.room)
          (within_limit MAX_DEPTH (height (moved_to tree page target position)) clear.shallow);
    }

module _ (url : Page → List ℕ) where
  -- the row with its URL of these
  abbrev pub labelled : Page → Page
  labelled row = with_url (url row) row

  -- URLs make no difference to which page is at a path
  parent_id-labelled : (path : List ℕ) (rows : List Page) →
      parent_id path rows ≡ parent_id path (map labelled rows)
  parent_id-labelled path [] = refl
  parent_id-labelled path (row ∷ rows) =
      by (bytes_eq row.path (above path)) (parent_id-labelled path rows)
    where
      by : (t : Bool) → parent_id path rows ≡ parent_id path (map labelled rows) →
          option_map (λ (r : Page). r.id) (cond t (Some row)
          (find (λ (r : Page). bytes_eq r.path (above path)) rows))
          ≡ option_map (λ (r : Page). r.id) (cond t (Some (labelled row))
          (find (λ (r : Page). bytes_eq r.path (above path)) (map labelled rows)))
      by true more = refl
      by false more = more

  -- nor to the kids of a page
  kids_in-labelled : (id : ℕ) (rows : List Page) → kids_in id rows ≡ kids_in id (map labelled rows)
  kids_in-labelled id [] = refl
  kids_in-labelled id (row ∷ rows) = by (is_parent id row.parent) (kids_in-labelled id rows)
    where
      by : (t : Bool) → kids_in id rows ≡ kids_in id (map labelled rows) →
          map (λ (r : Page). r.id) (cond t
          (row ∷ filter (λ (r : Page). is_parent id r.parent) rows)
          (filter (λ (r : Page). is_parent id r.parent) rows))
          ≡ map (λ (r : Page). r.id) (cond t
          (labelled row ∷ filter (λ (r : Page). is_parent id r.parent) (map labelled rows))
          (filter (λ (r : Page). is_parent id r.parent) (map labelled rows)))
      by true more = ap (λ ids. row.id ∷ ids) more
      by false more = more

  -- nor to a relation that does not look at them
  EachPair-labelled : (R : Page → Page → Type 0) →
      ((x y : Page) → R x y → R (labelled x) (labelled y)) → (rows : List Page) →
      EachPair R rows → EachPair R (map labelled rows)
  EachPair-labelled R w [] pairs = tt
  EachPair-labelled R w (row ∷ rows) pairs = (
    All-map (R (labelled row)) labelled rows
        (All-weaker (R row) (λ later. R (labelled row) (labelled later)) (w row) rows pairs.0),
    EachPair-labelled R w rows pairs.1,
  )

  -- nor to where the root stands
  starts-labelled : (rows : List Page) → StartsAtRoot rows → StartsAtRoot (map labelled rows)
  starts-labelled [] starts = absurd starts
  starts-labelled (row ∷ rows) starts = (
    record {
      id_is = starts.0.id_is;
      no_parent = starts.0.no_parent;
      path_is = starts.0.path_is;
      no_slug = starts.0.no_slug;
    },
    All-map (λ (later : Page). IsSome later.parent) labelled rows starts.1,
  )

  -- URLs make no difference to whether rows are those of a store
  pub labelled_pages : (rows : List Page) → ArePages rows → ArePages (map labelled rows)
  labelled_pages rows are = record {
    root = starts-labelled rows are.root;
    ids_fit = All-map (λ (row : Page). IsPageId row.id) labelled rows are.ids_fit;
    paths = All-map (λ (row : Page). IsPath row.path) labelled rows are.paths;
    in_order = EachPair-labelled IsBefore (λ x y before. before) rows are.in_order;
    own_ids = EachPair-labelled HasOtherId (λ x y differ. differ) rows are.own_ids;
    parents = All-map (λ (row : Page). row.parent ≡ parent_id row.path (map labelled rows)) labelled
        rows
        (All-weaker (λ (row : Page). row.parent ≡ parent_id row.path rows)
        (λ (row : Page). row.parent ≡ parent_id row.path (map labelled rows))
        (λ row is. is ∙ parent_id-labelled row.path rows) rows are.parents);
    counts = All-map (λ (row : Page). row.numchild ≡ length (kids_in row.id (map labelled rows)))
        labelled rows
        (All-weaker (λ (row : Page). row.numchild ≡ length (kids_in row.id rows))
        (λ (row : Page). row.numchild ≡ length (kids_in row.id (map labelled rows)))
        (λ row is. is ∙ ap length (kids_in-labelled row.id rows)) rows are.counts);
    own_slugs = EachPair-labelled HasOtherSlug (λ x y differ. differ) rows are.own_slugs;
  }
