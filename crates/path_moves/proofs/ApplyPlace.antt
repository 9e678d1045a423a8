-- The rows of a moved page stand together at its new place, behind those that remain before it.
use Rattle.std.proofs.Common.{◌≡◌, ℕ, ◌+◌, ◌-◌, ◌≤◌, Bool, true, false, not, cond, nat_eq, List, [], ◌∷◌, ◌++◌, Option, Some, None, IsSome, map, filter, take, drop, length, slice_get, refl, ap, sym, ◌∙◌, subst, arith, length-append, rules}
use Rattle.std.specs.List.{AllByRecursion}
use Rattle.std.specs.Option.{option_map, IfSome}
use Rattle.std.proofs.lemmas.List.{map-append, drop-drop, take-append-drop, take-map, drop-map, length-take-le, length-drop, length-map}
use Rattle.std.proofs.lemmas.List.Elements.{filter-append}
use Rattle.site_types.specs.declared.body.Body.{Body}
use Rattle.page_tree.specs.Tree.{Forest, Place, ids_of, node_of, without, graft}
use Rattle.page_tree.specs.Rows.{rows_of, row_with, is_parent}
use Rattle.tree_model.proofs.CountLemmas.{count, counts_has, same_id, node_found}
use Rattle.tree_model.proofs.MoveLemmas.{Lands}
use Rattle.page_store.specs.PageRows.{IsRange}
use Rattle.page_store.specs.Pages.{Page, ArePages}
use Rattle.page_store.specs.Relabelling.{range_moved, first_moved}
use Rattle.page_store.specs.Search.{begins, leading}
use Rattle.page_store.proofs.AllLemmas.{All-map, All-weaker, All-always}
use Rattle.page_store.proofs.Leading.{leading-map}
use Rattle.page_store.proofs.PathOrder.{begins-BeginsWith, BeginsWith-begins}
use Rattle.tree_rows.specs.Cuts.{place_of, lower_count, other_rows}
use Rattle.path_moves.specs.Laws.{IsTree}
use Rattle.tree_rows.proofs.Apart.{AreApart-without, rows_ids}
use Rattle.path_moves.proofs.ApplyAfter.{distinct_tree, left_lacks}
use Rattle.path_moves.proofs.ApplyOrder.{parted-graft, map-window_moved, window_moved-parted}
use Rattle.path_moves.proofs.CallLemmas.{ids_of-rows, deleted_is}
use Rattle.path_moves.proofs.LawLemmas.{cut_is, leading-front, other_id}
use Rattle.tree_rows.proofs.Lists.{all_parts, filter_all, filter_none}
use Rattle.tree_rows.proofs.SiteTree.{rising_tree, apart_tree}

-- the ids of rows
abbrev pub row_ids : List Page → List ℕ
row_ids rows = map (λ (row : Page). row.id) rows

-- one child less leaves the ids
ids-lower_count : (parent : Option ℕ) (rows : List Page) →
    row_ids (lower_count parent rows) ≡ row_ids rows
ids-lower_count parent [] = refl
ids-lower_count parent (row ∷ rows) = by (is_parent row.id parent) (ids-lower_count parent rows)
  where
    by : (t : Bool) → row_ids (lower_count parent rows) ≡ row_ids rows →
        row_ids (cond t (record row { numchild = row.numchild - 1 }) row ∷ lower_count parent rows)
        ≡ row_ids (row ∷ rows)
    by true more = ap (λ ids. row.id ∷ ids) more
    by false more = ap (λ ids. row.id ∷ ids) more

-- where those in a window pass and no others, those that fail are the others
filter_outside : {X : Type 0} (test : X → Bool) (xs : List X) (place n : ℕ) →
    AllByRecursion (λ x. test x ≡ true) (take place xs) →
    AllByRecursion (λ x. test x ≡ false) (take n (drop place xs)) →
    AllByRecursion (λ x. test x ≡ true) (drop (place + n) xs) →
    filter test xs ≡ take place xs ++ drop (place + n) xs
filter_outside test xs place n before inside behind =
    let parts = sym (take-append-drop place xs) ∙ ap (λ ys. take place xs ++ ys)
    (sym (take-append-drop n (drop place xs))
    ∙ ap (λ ys. take n (drop place xs) ++ ys) (drop-drop n place xs)) in
    ap (filter test) parts
    ∙ (filter-append test (take place xs) (take n (drop place xs) ++ drop (place + n) xs)
    ∙ rw (
      filter-append test (take n (drop place xs)) (drop (place + n) xs),
      filter_all test (take place xs) before,
      filter_none test (take n (drop place xs)) inside,
      filter_all test (drop (place + n) xs) behind,
    ) refl)

-- a test that would lead to nothing fails
fails_from : (t : Bool) → (t ≡ true → ⊥) → not t ≡ true
fails_from true h = absurd (h refl)
fails_from false h = refl

-- the rows outside a range
outside_range : (pages : List Page) (row : Page) (place n : ℕ) → IsRange pages row place n →
    other_rows row.path pages ≡ take place pages ++ drop (place + n) pages
outside_range pages row place n range =
    filter_outside (λ (other : Page). not (begins row.path other.path)) pages place n
    (All-weaker _ (λ (other : Page). not (begins row.path other.path) ≡ true)
    (λ (other : Page) out. fails_from (begins row.path other.path)
    (λ e. out (BeginsWith-begins row.path other.path e))) _ range.before)
    (All-weaker _ (λ (other : Page). not (begins row.path other.path) ≡ false)
    (λ (other : Page) on. ap not (begins-BeginsWith row.path other.path on)) _ range.inside)
    (All-weaker _ (λ (other : Page). not (begins row.path other.path) ≡ true)
    (λ (other : Page) out. fails_from (begins row.path other.path)
    (λ e. out (BeginsWith-begins row.path other.path e))) _ range.after)

-- the first of rows with these ids
first_of : (rows : List Page) (id : ℕ) (ids : List ℕ) → row_ids rows ≡ id ∷ ids →
    option_map (λ (row : Page). row.id) (slice_get rows 0) ≡ Some id
first_of [] id ids is = absurd cc
first_of (row ∷ rows) id ids is =
    let same : row.id ≡ id = cc in ap Some same

-- the place of a page is behind the ids that stand before its own
place_behind : (page : ℕ) (rows : List Page) (front behind : List ℕ) →
    row_ids rows ≡ front ++ page ∷ behind → AllByRecursion (λ id. id ≡ page → ⊥) front →
    place_of page rows ≡ length front
place_behind page rows front behind is lacks =
    sym (leading-map (λ (row : Page). row.id) (λ id. not (nat_eq id page))
    (λ (row : Page). not (nat_eq row.id page)) rows
    (All-always (λ (row : Page). not (nat_eq row.id page) ≡ not (nat_eq row.id page))
    (λ row. refl) rows))
    ∙ (ap (leading (λ id. not (nat_eq id page))) is
    ∙ leading-front (λ id. not (nat_eq id page)) front page behind
    (All-weaker (λ id. id ≡ page → ⊥) (λ id. not (nat_eq id page) ≡ true)
    (λ id other. ap not (other_id page id other)) front lacks) (ap not (same_id page)))

-- How rows are moved by a plan: by its place their ids get into the later order.
pub record IsInPlace (before after : List Page) (page from n : ℕ) : Type 0 where
  pub within : place_of page after + n ≤ length before
  pub order : row_ids (range_moved from n (place_of page after) before) ≡ row_ids after
  pub first : first_moved from n before ≡ Some page

-- the ids of the rows that remain, and those of the page and of all below it, make up the order
in_place_from : (before after : List Page) (page from n : ℕ) (own front behind : List ℕ) →
    from + n ≤ length before → row_ids (take n (drop from before)) ≡ page ∷ own →
    row_ids (take from before ++ drop (from + n) before) ≡ front ++ behind →
    row_ids after ≡ front ++ ((page ∷ own) ++ behind) →
    AllByRecursion (λ id. id ≡ page → ⊥) front → IsInPlace before after page from n
in_place_from before after page from n own front behind within node rest later lacks =
    let rest_rows = take from before ++ drop (from + n) before in
    let place = place_behind page after front (own ++ behind) later lacks in
    let ids_node : take n (drop from (row_ids before)) ≡ page ∷ own =
    rw (
      drop-map (λ (row : Page). row.id) from before,
      take-map (λ (row : Page). row.id) n (drop from before),
    ) node in
    let ids_rest : take from (row_ids before) ++ drop (from + n) (row_ids before)
    ≡ front ++ behind =
    rw (
      take-map (λ (row : Page). row.id) from before,
      drop-map (λ (row : Page). row.id) (from + n) before,
    )
    (sym (map-append (λ (row : Page). row.id) (take from before) (drop (from + n) before)) ∙ rest)
    in
    let size = length-map rest_rows (λ (row : Page). row.id) in
    let size_parts = length-append (take from before) (drop (from + n) before) in
    let size_front = length-take-le from before (omega (arith, within)) in
    let size_behind = length-drop (from + n) before in
    let size_ids = ap length rest ∙ length-append front behind in
    record {
      within = omega (arith, place, size, size_parts, size_front, size_behind, size_ids, within);
      order = ap (λ to. row_ids (range_moved from n to before)) place
          ∙ (map-window_moved (λ (row : Page). row.id) from n (length front) before
          ∙ (window_moved-parted (row_ids before) (page ∷ own) front behind from n ids_node ids_rest
          ∙ sym later));
      first = first_of (take n (drop from before)) page own node;
    }

-- A page that lands has its rows at its new place.
pub move_in_place : (tree : Forest Body) (page parent : ℕ) (place : Place) (row : Page)
    (from n : ℕ) →
    ArePages (rows_of tree) → row_with page (rows_of tree) ≡ Some row →
    IsRange (rows_of tree) row from n → ((j : ℕ) → count j tree ≤ 1) → 1 ≤ count page tree →
    Lands (without page tree) parent place →
    IsInPlace (rows_of tree)
    (rows_of (graft parent place (node_of page tree) (without page tree))) page from n
move_in_place tree page parent place row from n are found range each here lands =
    let before = rows_of tree in
    let left = without page tree in
    let node = node_found page tree here in
    let own = ids_of node.kids ++ [] in
    let ids_of_node : ids_of (node_of page tree) ≡ page ∷ own =
    ap (λ (f : Forest Body). ids_of f) node.is in
    let apart = apart_tree tree are in
    let is_tree : IsTree tree =
    record { rising = rising_tree tree are; distinct = distinct_tree tree are } in
    let cut = cut_is page tree row is_tree found in
    let left_ids : row_ids (take from before ++ drop (from + n) before) ≡ ids_of left =
    ap row_ids (sym (outside_range before row from n range))
    ∙ (sym (ids-lower_count row.parent (other_rows row.path before))
    ∙ (ap row_ids (sym cut) ∙ ids_of-rows None [] [] left)) in
    let some : IsSome (row_with page before) = rw found (search rules) in
    let ranged : IfSome (row_with page before) (λ row. IsRange before row from n) =
    rw found range in
    let window = deleted_is before page from n (row_ids (take n (drop from before))) tree are some
    ranged refl refl in
    let parted = parted-graft page node.step node.slug node.body node.kids parent place left
    (AreApart-without page tree apart) (counts_has parent left (let one = lands.one_parent in
    omega (arith, one))) lands.among in
    let lacks_left = (left_lacks tree page parent place are each here lands).0 in
    let lacks_ids = subst (λ ids. AllByRecursion (λ id. id ≡ page → ⊥) ids)
    (ids_of-rows None [] [] left)
    (All-map (λ id. id ≡ page → ⊥) (λ (r : Page). r.id) (rows_of left)
    (rows_ids (λ j. j ≡ page → ⊥) None [] [] left lacks_left)) in
    let lacks_parts = all_parts (λ id. id ≡ page → ⊥) parted.front parted.behind
    (subst (λ ids. AllByRecursion (λ id. id ≡ page → ⊥) ids) parted.whole_is lacks_ids) in
    let later : row_ids (rows_of (graft parent place (node_of page tree) left))
    ≡ parted.front ++ ((page ∷ own) ++ parted.behind) =
    ids_of-rows None [] [] (graft parent place (node_of page tree) left)
    ∙ (ap (λ (f : Forest Body). ids_of (graft parent place f left)) node.is ∙ parted.after_is) in
    in_place_from before (rows_of (graft parent place (node_of page tree) left)) page from n own
    parted.front parted.behind range.within (window ∙ ids_of_node) (left_ids ∙ parted.whole_is)
    later lacks_parts.0
