-- What a cut and a graft are on the rows of a whole tree.
use Rattle.std.proofs.Common.{◌≡◌, ℕ, ◌+◌, Bool, true, false, not, cond, nat_eq, List, [], ◌∷◌, ◌++◌, Some, None, is_some, map, find, take, drop, length, refl, ap, sym, ◌∙◌, arith, append_assoc, length-append}
use Rattle.std.specs.List.{AllByRecursion}
use Rattle.std.proofs.lemmas.Bool.Decides.{nat_tests}
use Rattle.std.proofs.lemmas.List.{append-nil, map-append}
use Rattle.std.proofs.lemmas.List.Elements.{filter-append}
use Rattle.std.proofs.Math.Seq.{take-append_seam, drop-append_seam}
use Rattle.page_tree.specs.Tree.{Forest, bare, grown, End, AllIds, AreRising, has_page, kids_of, node_of, placed, step_needed, without, graft, moved, put_last, last_step}
use Rattle.page_tree.specs.Walk.{kid_count}
use Rattle.page_tree.specs.Rows.{child_url, row_with, rows_below, rows_of, raise_count, with_kid, is_parent}
use Rattle.page_tree.proofs.RowLemmas.{has_page-rows}
use Rattle.site_types.specs.declared.body.Body.{Body}
use Rattle.page_store.specs.Search.{begins, leading}
use Rattle.page_store.proofs.PathOrder.{begins-self, begins-BeginsWith}
use Rattle.page_store.proofs.AllLemmas.{All-append, All-weaker}
use Rattle.tree_rows.specs.Subtree.{subtree_rows}
use Rattle.tree_rows.specs.Cuts.{with_count, lower_count, other_rows, cut_rows, relabel_row, moved_rows, end_of, put_behind}
use Rattle.path_moves.specs.Laws.{Page, IsTree}
use Rattle.tree_rows.proofs.Apart.{AreApart, AreApart-distinct, AreApart-without, AreRising-without}
use Rattle.tree_rows.proofs.Block.{Block, block_of}
use Rattle.tree_rows.proofs.Lists.{filter_all, filter_none, filter_middle}
use Rattle.tree_rows.proofs.SubtreeLemmas.{rows_begin, block_rows}
use Rattle.path_moves.proofs.GraftLemmas.{rows_below-put_last, rows_below-relabelled}

-- a search passes over what fails
pub find-skip : {X : Type 0} (test : X → Bool) (xs : List X) (y : X) (ys : List X) →
    AllByRecursion (λ x. test x ≡ false) xs → test y ≡ true → find test (xs ++ y ∷ ys) ≡ Some y
find-skip test [] y ys none passes = rw passes refl
find-skip test (x ∷ xs) y ys none passes = rw none.0 (find-skip test xs y ys none.1 passes)

-- the first of these that fails stands behind those that pass
pub leading-front : {X : Type 0} (test : X → Bool) (front : List X) (y : X) (ys : List X) →
    AllByRecursion (λ x. test x ≡ true) front → test y ≡ false → leading test (front ++ y ∷ ys)
    ≡ length front
leading-front test [] y ys all fails = rw fails refl
leading-front test (x ∷ front) y ys all fails =
    let more = leading-front test front y ys all.1 fails in rw (all.0, more) (omega arith)

-- ids that differ are told apart
pub other_id : (p i : ℕ) → (i ≡ p → ⊥) → nat_eq i p ≡ false
other_id p i other = grind (arith, nat_tests)

-- and from the other side
pub other_parent : (p i : ℕ) → (i ≡ p → ⊥) → nat_eq p i ≡ false
other_parent p i other = grind (arith, nat_tests)

-- one kid more leaves the rows of other pages
pub raise-others : (p : ℕ) (rows : List Page) →
    AllByRecursion (λ (row : Page). row.id ≡ p → ⊥) rows →
    raise_count (Some p) rows ≡ rows
raise-others p [] others = refl
raise-others p (row ∷ rows) others =
    let differs = other_parent p row.id others.0 in rw (differs, raise-others p rows others.1) refl

-- a page more among siblings
kid_count-put_last : (before id step : ℕ) (slug : List ℕ) (body : Body) (kids f : Forest Body) →
    kid_count (put_last before (grown id step slug body kids bare) f) ≡ kid_count f + 1
kid_count-put_last before id step slug body kids bare = refl
kid_count-put_last before id step slug body kids (grown i s own b k rest) =
    ap (λ n. n + 1) (kid_count-put_last s id step slug body kids rest)

-- rows put in behind those that begin with a path
put_behind-parts : (path : List ℕ) (new front : List Page) (y : Page) (ys behind : List Page) →
    AllByRecursion (λ (row : Page). begins path row.path ≡ false) front →
    AllByRecursion (λ (row : Page). begins path row.path ≡ true) (y ∷ ys) →
    AllByRecursion (λ (row : Page). begins path row.path ≡ false) behind →
    put_behind path new (front ++ (y ∷ (ys ++ behind))) ≡ front ++ (y ∷ (ys ++ (new ++ behind)))
put_behind-parts path new front y ys behind out inside rest =
    let test : Page → Bool = λ row. begins path row.path in
    let outside = All-weaker (λ (row : Page). begins path row.path
    ≡ false) (λ (row : Page). not (begins path row.path) ≡ true)
    (λ row e. ap not e) front out in
    let start = leading-front (λ (row : Page). not (begins path row.path)) front y (ys ++ behind)
    outside (ap not inside.0) in
    let middle = filter_middle (λ (row : Page). begins path row.path) front (y ∷ ys) behind out
    inside rest in
    let end : end_of path (front ++ (y ∷ (ys ++ behind))) ≡ length (front ++ (y ∷ ys)) =
    rw (start, middle) (sym (length-append front (y ∷ ys))) in
    let whole : front ++ (y ∷ (ys ++ behind)) ≡ (front ++ (y ∷ ys))
    ++ behind = sym (append_assoc front (y ∷ ys) behind) in
    let taken : take (length (front ++ (y ∷ ys))) (front ++ (y ∷ (ys ++ behind))) ≡ front
    ++ (y ∷ ys) =
    ap (take (length (front ++ (y ∷ ys)))) whole
    ∙ take-append_seam (front ++ (y ∷ ys)) behind in
    let left : drop (length (front ++ (y ∷ ys))) (front ++ (y ∷ (ys ++ behind))) ≡ behind =
    ap (drop (length (front ++ (y ∷ ys)))) whole
    ∙ drop-append_seam (front ++ (y ∷ ys)) behind in
    rw (end, taken, left) (append_assoc front (y ∷ ys) (new ++ behind))

-- the block of a page that has a row, in a tree whose ids are apart
pub block_in : (tree : Forest Body) (id : ℕ) (top : Page) → AreRising 0 tree → AreApart tree →
    row_with id (rows_of tree) ≡ Some top → (b : Block id 0 None [] [] tree) × (top ≡ b.top)
block_in tree id top rising apart found =
    let there : has_page id tree ≡ true = has_page-rows id None [] [] tree ∙ ap is_some found in
    let b = block_of id 0 None [] [] tree rising apart there in
    let passes : nat_eq b.top.id id ≡ true = (let same = b.id_is in grind (arith, nat_tests)) in
    let one = ap (row_with id) b.rows_are
    ∙ find-skip (λ (row : Page). nat_eq row.id id) b.front b.top _
    (All-weaker (λ (row : Page). row.id ≡ id → ⊥) (λ (row : Page). nat_eq row.id id ≡ false)
    (λ row other. other_id id row.id other) b.front b.front_ids) passes in
    (b, (let both : Some top ≡ Some b.top = sym found ∙ one in cc))

-- the rows outside a block
block_others : (tree : Forest Body) (id : ℕ) (b : Block id 0 None [] [] tree) →
    other_rows b.top.path (rows_of tree) ≡ b.front ++ b.behind
block_others tree id b =
    let test : Page → Bool = λ row. not (begins b.top.path row.path) in
    let inner = rows_below (Some id) b.top.path b.top.url (kids_of id tree) in
    let inside : AllByRecursion (λ (row : Page). not (begins b.top.path row.path)
    ≡ false) (b.top ∷ inner) = (
      ap not (begins-self b.top.path),
      All-weaker _ (λ (row : Page). not (begins b.top.path row.path) ≡ false)
          (λ (row : Page) on. ap not (begins-BeginsWith b.top.path row.path on)) _
          (rows_begin (Some id) b.top.path b.top.url (kids_of id tree)),
    ) in
    let out = All-weaker (λ (row : Page). begins b.top.path row.path
    ≡ false) (λ (row : Page). not (begins b.top.path row.path) ≡ true)
    (λ row e. ap not e) in
    rw (
      b.rows_are,
      filter-append (λ (row : Page). not (begins b.top.path row.path)) b.front
          (b.top ∷ (inner ++ b.behind)),
      filter-append (λ (row : Page). not (begins b.top.path row.path)) (b.top ∷ inner) b.behind,
      filter_none (λ (row : Page). not (begins b.top.path row.path)) (b.top ∷ inner) inside,
      filter_all (λ (row : Page). not (begins b.top.path row.path)) b.front
          (out b.front b.front_out),
      filter_all (λ (row : Page). not (begins b.top.path row.path)) b.behind
          (out b.behind b.behind_out),
    ) refl

-- no page is the parent of the root
rootless : (f : Forest Body) → AllIds (λ j. None ≡ Some j → ⊥) f
rootless bare = tt
rootless (grown i s slug body kids rest) = ((λ e. cc), rootless kids, rootless rest)

-- what a cut leaves
cut_of : (id : ℕ) (tree : Forest Body) (top : Page) → AreRising 0 tree → AreApart tree →
    row_with id (rows_of tree) ≡ Some top → rows_of (without id tree) ≡ cut_rows top (rows_of tree)
cut_of id tree top rising apart found =
    let block = block_in tree id top rising apart found in
    let b = block.0 in
    rw block.1 (b.cut_is (rootless tree)
    ∙ ap (lower_count b.top.parent) (sym (block_others tree id b)))

-- what a graft puts in
graft_of : (parent id step : ℕ) (slug : List ℕ) (body : Body) (kids tree : Forest Body)
    (top : Page) →
    AreRising 0 tree → AreApart tree → row_with parent (rows_of tree) ≡ Some top →
    rows_of (graft parent End (grown id step slug body kids bare) tree)
    ≡ put_behind top.path
    (rows_below (Some parent) top.path top.url
    (placed (grown id step slug body kids bare) (step_needed End (kids_of parent tree)) bare))
    (raise_count (Some parent) (rows_of tree))
graft_of parent id step slug body kids tree top rising apart found =
    let block = block_in tree parent top rising apart found in
    let b = block.0 in
    let node = grown id step slug body kids bare in
    let inner = rows_below (Some parent) b.top.path b.top.url (kids_of parent tree) in
    let new = rows_below (Some parent) b.top.path b.top.url
    (placed node (last_step 0 (kids_of parent tree) + 1) bare) in
    let inside : AllByRecursion (λ (row : Page). begins b.top.path row.path
    ≡ true) (with_kid b.top ∷ inner) = (
      begins-self b.top.path,
      All-weaker _ (λ (row : Page). begins b.top.path row.path ≡ true)
          (λ (row : Page) on. begins-BeginsWith b.top.path row.path on) _
          (rows_begin (Some parent) b.top.path b.top.url (kids_of parent tree)),
    ) in
    let own : nat_eq parent b.top.id ≡ true = (let same = b.id_is in grind (arith, nat_tests)) in
    let raised : raise_count (Some parent) (rows_of tree) ≡ b.front
    ++ (with_kid b.top ∷ (inner ++ b.behind)) =
    rw (
      b.rows_are,
      map-append
          (λ (row : Page). cond (is_parent row.id (Some parent)) (with_kid row) row) b.front
          (b.top ∷ (inner ++ b.behind)),
      own,
      raise-others parent b.front b.front_ids,
      raise-others parent (inner ++ b.behind) (All-append _ _ _ b.inner_ids b.behind_ids),
    ) refl
    in
    let count : with_count (kid_count (put_last 0 node (kids_of parent tree))) b.top
    ≡ with_kid b.top =
    ap (λ n. with_count n b.top)
    (kid_count-put_last 0 id step slug body kids (kids_of parent tree)
    ∙ ap (λ n. n + 1) (sym b.count_is)) in
    rw (block.1, raised) (
    b.graft_is End node
    ∙ (rw (
      count,
      rows_below-put_last (Some parent) b.top.path b.top.url 0 node
          (kids_of parent tree),
      append_assoc inner new b.behind,
    ) refl
    ∙ sym (put_behind-parts b.top.path new b.front (with_kid b.top) inner b.behind b.front_out
    inside b.behind_out)))

-- the rows of a page at another place
pub relabelled_is : (id parent at : ℕ) (path url : List ℕ) (tree : Forest Body) (top : Page) →
    IsTree tree →
    row_with id (rows_of tree) ≡ Some top →
    rows_below (Some parent) path url (placed (node_of id tree) at bare)
    ≡ moved_rows parent (path ++ at ∷ []) (child_url url top.slug)
    (subtree_rows top.path (rows_of tree))
relabelled_is id parent at path url tree top is found =
    let block = block_in tree id top is.rising (AreApart-distinct tree is.distinct) found in
    let b = block.0 in
    let kids = kids_of id tree in
    let new_path = path ++ at ∷ [] in
    let new_url = child_url url b.top.slug in
    let old = rows_below (Some id) b.top.path b.top.url kids in
    let moved_below : rows_below (Some id) new_path new_url kids
    ≡ map (relabel_row b.top.path new_path b.top.url new_url) old =
    rw (append-nil new_path, append-nil new_url, append-nil b.top.path, append-nil b.top.url)
    at (rows_below-relabelled (Some id) b.top.path new_path [] b.top.url new_url [] kids) in
    rw (
      block.1,
      block_rows id 0 None [] [] tree b,
      b.node_is,
      append-nil (rows_below (Some id) new_path new_url kids),
      moved_below,
      b.id_is,
      b.count_is,
    ) refl

-- a cut, in a tree of pages
pub cut_is : (id : ℕ) (tree : Forest Body) (top : Page) → IsTree tree → row_with id (rows_of tree)
    ≡ Some top →
    rows_of (without id tree) ≡ cut_rows top (rows_of tree)
cut_is id tree top is found = cut_of id tree top is.rising (AreApart-distinct tree is.distinct)
    found

-- a graft, in a tree of pages
pub graft_is : (parent id step : ℕ) (slug : List ℕ) (body : Body) (kids tree : Forest Body)
    (top : Page) →
    IsTree tree → row_with parent (rows_of tree) ≡ Some top →
    rows_of (graft parent End (grown id step slug body kids bare) tree)
    ≡ put_behind top.path
    (rows_below (Some parent) top.path top.url
    (placed (grown id step slug body kids bare) (step_needed End (kids_of parent tree)) bare))
    (raise_count (Some parent) (rows_of tree))
graft_is parent id step slug body kids tree top is found =
    graft_of parent id step slug body kids tree top is.rising (AreApart-distinct tree is.distinct)
    found

-- a move behind the last kid, in a tree of pages
pub move_is : (id parent : ℕ) (tree : Forest Body) (top above : Page) → IsTree tree →
    row_with id (rows_of tree) ≡ Some top →
    row_with parent (cut_rows top (rows_of tree)) ≡ Some above →
    rows_of (moved id parent End tree)
    ≡ put_behind above.path
    (moved_rows parent (above.path ++ step_needed End (kids_of parent (without id tree)) ∷ [])
    (child_url above.url top.slug) (subtree_rows top.path (rows_of tree)))
    (raise_count (Some parent) (cut_rows top (rows_of tree)))
move_is id parent tree top above is found left =
    let apart = AreApart-distinct tree is.distinct in
    let block = block_in tree id top is.rising apart found in
    let b = block.0 in
    let cut = cut_is id tree top is found in
    let rising = AreRising-without id 0 tree is.rising in
    let grafted = graft_of parent id b.own_step b.top.slug b.top.body (kids_of id tree)
    (without id tree) above rising
    (AreApart-without id tree apart) (ap (row_with parent) cut ∙ left) in
    let labels = relabelled_is id parent (step_needed End (kids_of parent (without id tree)))
    above.path above.url tree top is found in
    ap (λ node. rows_of (graft parent End node (without id tree))) b.node_is
    ∙ (grafted ∙ rw (← cut, ← labels, b.node_is) refl)
