-- What a graft at the first place and one before a kid are on the rows of a whole tree.
use Rattle.std.proofs.Common.{◌≡◌, ℕ, suc, ◌+◌, true, false, not, cond, nat_eq, List, [], ◌∷◌, ◌++◌, Some, None, map, take, drop, length, refl, ap, sym, ◌∙◌, subst, arith, append_assoc, length-append}
use Rattle.std.specs.List.{AllByRecursion}
use Rattle.std.proofs.lemmas.Bool.Decides.{nat_tests}
use Rattle.std.proofs.lemmas.List.{map-append}
use Rattle.std.proofs.Math.Seq.{take-append_seam, drop-append_seam}
use Rattle.page_tree.specs.Tree.{Forest, bare, grown, First, Before, kids_of, placed, raised, put_before, graft}
use Rattle.page_tree.specs.Walk.{kid_count}
use Rattle.page_tree.specs.Rows.{child_url, row_with, rows_below, rows_of, raise_count, with_kid, is_parent}
use Rattle.site_types.specs.declared.body.Body.{Body}
use Rattle.page_store.specs.Search.{begins}
use Rattle.page_store.proofs.PathOrder.{begins-self, begins-BeginsWith}
use Rattle.page_store.proofs.AllLemmas.{All-append, All-weaker}
use Rattle.tree_rows.specs.Cuts.{with_count, raise_row, end_of, put_from, place_of, is_sibling}
use Rattle.path_moves.specs.Laws.{Page, IsTree}
use Rattle.tree_rows.proofs.Apart.{AreApart-distinct}
use Rattle.tree_rows.proofs.Block.{Block}
use Rattle.tree_rows.proofs.Lists.{filter_middle, all_parts}
use Rattle.tree_rows.proofs.SubtreeLemmas.{rows_begin}
use Rattle.path_moves.proofs.GraftLemmas.{siblings_of, kid_count-raised, rows_below-placed, rows_below-raised}
use Rattle.path_moves.proofs.LawLemmas.{leading-front, other_id, raise-others, block_in}

-- rows put in among those that begin with a path
put_from-parts : (path : List ℕ) (new front : List Page) (y : Page) (early late behind : List Page)
    (n : ℕ) →
    AllByRecursion (λ (row : Page). begins path row.path ≡ false) front →
    AllByRecursion (λ (row : Page). begins path row.path ≡ true) (y ∷ (early ++ late)) →
    AllByRecursion (λ (row : Page). begins path row.path ≡ false) behind →
    n ≡ length (front ++ (y ∷ early)) →
    put_from path n new (front ++ (y ∷ ((early ++ late) ++ behind)))
    ≡ front ++ (y ∷ (early ++ (new ++ (map (raise_row (length path)) late ++ behind))))
put_from-parts path new front y early late behind n out inside rest place =
    let outside = All-weaker (λ (row : Page). begins path row.path
    ≡ false) (λ (row : Page). not (begins path row.path) ≡ true)
    (λ row e. ap not e) front out in
    let start = leading-front (λ (row : Page). not (begins path row.path)) front y ((early ++ late)
    ++ behind) outside (ap not inside.0) in
    let middle = filter_middle (λ (row : Page). begins path row.path) front (y ∷ (early ++ late))
    behind out inside rest in
    let block = front ++ (y ∷ (early ++ late)) in
    let head = front ++ (y ∷ early) in
    let end : end_of path (front ++ (y ∷ ((early ++ late) ++ behind))) ≡ length block =
    rw (start, middle) (sym (length-append front (y ∷ (early ++ late)))) in
    let whole : front ++ (y ∷ ((early ++ late) ++ behind)) ≡ block ++ behind =
    sym (append_assoc front (y ∷ (early ++ late)) behind) in
    let taken : take (length block) (front ++ (y ∷ ((early ++ late) ++ behind))) ≡ block =
    ap (take (length block)) whole ∙ take-append_seam block behind in
    let left : drop (length block) (front ++ (y ∷ ((early ++ late) ++ behind))) ≡ behind =
    ap (drop (length block)) whole ∙ drop-append_seam block behind in
    let parts : block ≡ head ++ late = sym (append_assoc front (y ∷ early) late) in
    let raised_rows : drop n block ≡ late =
    ap (λ m. drop m block) place
    ∙ (ap (drop (length head)) parts ∙ drop-append_seam head late) in
    let front_rows : take n (front ++ (y ∷ ((early ++ late) ++ behind))) ≡ head =
    ap (λ m. take m (front ++ (y ∷ ((early ++ late) ++ behind)))) place
    ∙ (ap (take (length head)) (whole
    ∙ (ap (λ rows. rows ++ behind) parts ∙ append_assoc head late behind))
    ∙ take-append_seam head (late ++ behind)) in
    rw (end, taken, left, raised_rows, front_rows)
    (append_assoc front (y ∷ early) (new ++ (map (raise_row (length path)) late ++ behind)))

-- a row with an id that no other row has stands at one place
pub same_place : (id : ℕ) (xs : List Page) (x : Page) (ys front : List Page) (top : Page)
    (behind : List Page) →
    xs ++ x ∷ ys ≡ front ++ top ∷ behind → x.id ≡ id →
    AllByRecursion (λ (row : Page). row.id ≡ id → ⊥) front →
    AllByRecursion (λ (row : Page). row.id ≡ id → ⊥) behind → (length front ≡ length xs) × (x ≡ top)
same_place id [] x ys [] top behind same own before after = (refl, cc)
same_place id [] x ys (y ∷ front) top behind same own before after =
    let one : x ≡ y = cc in absurd (before.0 (ap (λ (r : Page). r.id) (sym one) ∙ own))
same_place id (z ∷ xs) x ys [] top behind same own before after =
    let tails : xs ++ x ∷ ys ≡ behind = cc in
    let moved = subst (λ rows. AllByRecursion (λ (row : Page). row.id ≡ id → ⊥) rows) (sym tails)
    after in
    absurd ((all_parts (λ (row : Page). row.id ≡ id → ⊥) xs (x ∷ ys) moved).1.0 own)
same_place id (z ∷ xs) x ys (y ∷ front) top behind same own before after =
    let tails : xs ++ x ∷ ys ≡ front ++ top ∷ behind = cc in
    let more = same_place id xs x ys front top behind tails own before.1 after in
    (ap suc more.0, more.1)

-- the place of a page is behind the rows before its block
pub place_in_block : (id : ℕ) (tree : Forest Body) (b : Block id 0 None [] [] tree) →
    place_of id (rows_of tree) ≡ length b.front
place_in_block id tree b =
    let own : nat_eq b.top.id id ≡ true = (let same = b.id_is in grind (arith, nat_tests)) in
    ap (place_of id) b.rows_are
    ∙ leading-front (λ (row : Page). not (nat_eq row.id id)) b.front b.top _
    (All-weaker (λ (row : Page). row.id ≡ id → ⊥) (λ (row : Page). not (nat_eq row.id id) ≡ true)
    (λ row other. ap not (other_id id row.id other)) b.front b.front_ids) (ap not own)

-- the rows of a tree with one kid more at a page
raised_rows_are : (parent : ℕ) (tree : Forest Body) (b : Block parent 0 None [] [] tree) →
    raise_count (Some parent) (rows_of tree)
    ≡ b.front ++ (with_kid b.top ∷
    (rows_below (Some parent) b.top.path b.top.url (kids_of parent tree) ++ b.behind))
raised_rows_are parent tree b =
    let inner = rows_below (Some parent) b.top.path b.top.url (kids_of parent tree) in
    let own : nat_eq parent b.top.id ≡ true = (let same = b.id_is in grind (arith, nat_tests)) in
    rw (
      b.rows_are,
      map-append
          (λ (row : Page). cond (is_parent row.id (Some parent)) (with_kid row) row) b.front
          (b.top ∷ (inner ++ b.behind)),
      own,
      raise-others parent b.front b.front_ids,
      raise-others parent (inner ++ b.behind) (All-append _ _ _ b.inner_ids b.behind_ids),
    ) refl

-- the rows of a page and of all below it begin with its path
inside_block : (parent : ℕ) (tree : Forest Body) (b : Block parent 0 None [] [] tree) →
    AllByRecursion (λ (row : Page). begins b.top.path row.path ≡ true)
    (with_kid b.top ∷ rows_below (Some parent) b.top.path b.top.url (kids_of parent tree))
inside_block parent tree b = (
  begins-self b.top.path,
  All-weaker _ (λ (row : Page). begins b.top.path row.path ≡ true)
      (λ (row : Page) on. begins-BeginsWith b.top.path row.path on) _
      (rows_begin (Some parent) b.top.path b.top.url (kids_of parent tree)),
)

-- one page more at the first place
kid_count-first : (id step : ℕ) (slug : List ℕ) (body : Body) (kids f : Forest Body) →
    kid_count (placed (grown id step slug body kids bare) 1 (raised f)) ≡ kid_count f + 1
kid_count-first id step slug body kids f = ap (λ n. n + 1) (kid_count-raised f)

-- a graft at the first place
pub first_is : (parent id step : ℕ) (slug : List ℕ) (body : Body) (kids tree : Forest Body)
    (top : Page) →
    IsTree tree → row_with parent (rows_of tree) ≡ Some top →
    rows_of (graft parent First (grown id step slug body kids bare) tree)
    ≡ put_from top.path (place_of parent (rows_of tree) + 1)
    (rows_below (Some parent) top.path top.url (placed (grown id step slug body kids bare) 1 bare))
    (raise_count (Some parent) (rows_of tree))
first_is parent id step slug body kids tree top is found =
    let block = block_in tree parent top is.rising (AreApart-distinct tree is.distinct) found in
    let b = block.0 in
    let node = grown id step slug body kids bare in
    let inner = rows_below (Some parent) b.top.path b.top.url (kids_of parent tree) in
    let new = rows_below (Some parent) b.top.path b.top.url (placed node 1 bare) in
    let length_front = length-append b.front (with_kid b.top ∷ []) in
    let place : place_of parent (rows_of tree) + 1 ≡ length (b.front ++ (with_kid b.top ∷ [])) =
    (let at = place_in_block parent tree b in omega arith) in
    let count : with_count (kid_count (placed node 1 (raised (kids_of parent tree)))) b.top
    ≡ with_kid b.top =
    ap (λ n. with_count n b.top) (kid_count-first id step slug body kids (kids_of parent tree)
    ∙ ap (λ n. n + 1) (sym b.count_is)) in
    let placed_rows = rows_below (Some parent) b.top.path b.top.url
    (placed node 1 (raised (kids_of parent tree))) in
    let placed_are : placed_rows ≡ new ++ map (raise_row (length b.top.path)) inner =
    rows_below-placed (Some parent) b.top.path b.top.url node 1 (raised (kids_of parent tree))
    ∙ ap (λ rows. new ++ rows)
    (rows_below-raised (Some parent) b.top.path b.top.url (kids_of parent tree)) in
    let grafted : rows_of (graft parent First node tree)
    ≡ b.front ++ (with_kid b.top ∷ (new
    ++ (map (raise_row (length b.top.path)) inner ++ b.behind))) =
    b.graft_is First node
    ∙ (ap (λ row. b.front ++ (row ∷ (placed_rows ++ b.behind))) count
    ∙ (ap (λ rows. b.front ++ (with_kid b.top ∷ (rows ++ b.behind))) placed_are
    ∙ ap (λ rows. b.front ++ (with_kid b.top ∷ rows))
    (append_assoc new (map (raise_row (length b.top.path)) inner) b.behind))) in
    let put = put_from-parts b.top.path new b.front (with_kid b.top) [] inner b.behind
    (place_of parent (rows_of tree) + 1) b.front_out (inside_block parent tree b) b.behind_out
    place in
    rw (block.1, raised_rows_are parent tree b) (grafted ∙ sym put)

-- a step behind one path is told by the whole path
pub same_step : (path : List ℕ) (s t : ℕ) → path ++ s ∷ [] ≡ path ++ t ∷ [] → s ≡ t
same_step [] s t same = cc
same_step (x ∷ path) s t same =
    same_step path s t (let rest : path ++ s ∷ [] ≡ path ++ t ∷ [] = cc in rest)

-- a graft before a kid
pub before_is : (parent sibling id step : ℕ) (slug : List ℕ) (body : Body)
    (kids tree : Forest Body) (top kid : Page) →
    IsTree tree → row_with parent (rows_of tree) ≡ Some top → row_with sibling (rows_of tree)
    ≡ Some kid →
    is_sibling sibling (kids_of parent tree) ≡ true → (at : ℕ) → kid.path ≡ top.path ++ at ∷ [] →
    rows_of (graft parent (Before sibling) (grown id step slug body kids bare) tree)
    ≡ put_from top.path (place_of sibling (rows_of tree))
    (rows_below (Some parent) top.path top.url (placed (grown id step slug body kids bare) at bare))
    (raise_count (Some parent) (rows_of tree))
before_is parent sibling id step slug body kids tree top kid is found found_kid there at kid_path =
    let apart = AreApart-distinct tree is.distinct in
    let block = block_in tree parent top is.rising apart found in
    let b = block.0 in
    let own_block = block_in tree sibling kid is.rising apart found_kid in
    let k = own_block.0 in
    let sib = siblings_of sibling (kids_of parent tree) there in
    let node = grown id step slug body kids bare in
    let early = sib.earlier_rows (Some parent) b.top.path b.top.url in
    let late = rows_below (Some parent) b.top.path b.top.url sib.later in
    let first : Page = record {
      id = sibling;
      parent = Some parent;
      path = b.top.path ++ sib.step ∷ [];
      url = child_url b.top.url sib.slug;
      slug = sib.slug;
      numchild = kid_count sib.kids;
      body = sib.body;
    } in
    let others = rows_below (Some sibling) (b.top.path ++ sib.step ∷ [])
    (child_url b.top.url sib.slug) sib.kids
    ++ rows_below (Some parent) b.top.path b.top.url sib.rest in
    let late_are : late ≡ first ∷ others =
    ap (rows_below (Some parent) b.top.path b.top.url) sib.later_is in
    let inner_are = sib.rows_are (Some parent) b.top.path b.top.url in
    let rows_are : rows_of tree ≡ (b.front ++ (b.top ∷ early)) ++ (first ∷ (others ++ b.behind)) =
    rw (
      b.rows_are,
      inner_are,
      late_are,
      append_assoc early (first ∷ others) b.behind,
      append_assoc b.front (b.top ∷ early) (first ∷ (others ++ b.behind)),
    ) refl in
    let one = same_place sibling (b.front ++ (b.top ∷ early)) first (others ++ b.behind) k.front
    k.top
    (rows_below (Some sibling) k.top.path k.top.url (kids_of sibling tree) ++ k.behind)
    (sym rows_are ∙ k.rows_are) refl k.front_ids (All-append _ _ _ k.inner_ids k.behind_ids) in
    let place : place_of sibling (rows_of tree) ≡ length (b.front ++ (with_kid b.top ∷ early)) =
    place_in_block sibling tree k ∙ (one.0 ∙ (length-append b.front (b.top ∷ early)
    ∙ sym (length-append b.front (with_kid b.top ∷ early)))) in
    let at_is : at ≡ sib.step = same_step b.top.path at sib.step
    (ap (λ (r : Page). r.path ++ at ∷ []) (sym block.1) ∙ (sym kid_path
    ∙ (ap (λ (r : Page). r.path) own_block.1 ∙ ap (λ (r : Page). r.path) (sym one.1)))) in
    let new = rows_below (Some parent) b.top.path b.top.url (placed node sib.step bare) in
    let inside = subst (λ rows. AllByRecursion (λ (row : Page). begins b.top.path row.path
    ≡ true) (with_kid b.top ∷ rows))
    inner_are (inside_block parent tree b) in
    let raised_are : raise_count (Some parent) (rows_of tree)
    ≡ b.front ++ (with_kid b.top ∷ ((early ++ late) ++ b.behind)) =
    raised_rows_are parent tree b
    ∙ ap (λ rows. b.front ++ (with_kid b.top ∷ (rows ++ b.behind))) inner_are in
    let count : with_count (kid_count (put_before sibling node (kids_of parent tree))) b.top
    ≡ with_kid b.top =
    ap (λ n. with_count n b.top) (sib.count_is id step slug body kids
    ∙ ap (λ n. n + 1) (sym b.count_is)) in
    let grafted : rows_of (graft parent (Before sibling) node tree)
    ≡ b.front ++ (with_kid b.top
    ∷ (early ++ (new ++ (map (raise_row (length b.top.path)) late ++ b.behind)))) =
    b.graft_is (Before sibling) node
    ∙ rw (
      count,
      sib.put_is (Some parent) b.top.path b.top.url node,
      append_assoc early (new ++ map (raise_row (length b.top.path)) late) b.behind,
      append_assoc new (map (raise_row (length b.top.path)) late) b.behind,
    ) refl in
    let put = put_from-parts b.top.path new b.front (with_kid b.top) early late b.behind
    (place_of sibling (rows_of tree)) b.front_out inside b.behind_out place in
    rw (block.1, raised_are, at_is) (grafted ∙ sym put)

-- the path of a kid's row is its parent's with one step more
pub kid_step : (parent sibling : ℕ) (tree : Forest Body) (top kid : Page) → IsTree tree →
    row_with parent (rows_of tree) ≡ Some top → row_with sibling (rows_of tree) ≡ Some kid →
    is_sibling sibling (kids_of parent tree) ≡ true →
    (at : ℕ) × (kid.path ≡ top.path ++ at ∷ [])
kid_step parent sibling tree top kid is found found_kid there =
    let apart = AreApart-distinct tree is.distinct in
    let block = block_in tree parent top is.rising apart found in
    let b = block.0 in
    let own_block = block_in tree sibling kid is.rising apart found_kid in
    let k = own_block.0 in
    let sib = siblings_of sibling (kids_of parent tree) there in
    let early = sib.earlier_rows (Some parent) b.top.path b.top.url in
    let first : Page = record {
      id = sibling;
      parent = Some parent;
      path = b.top.path ++ sib.step ∷ [];
      url = child_url b.top.url sib.slug;
      slug = sib.slug;
      numchild = kid_count sib.kids;
      body = sib.body;
    } in
    let others = rows_below (Some sibling) (b.top.path ++ sib.step ∷ [])
    (child_url b.top.url sib.slug) sib.kids
    ++ rows_below (Some parent) b.top.path b.top.url sib.rest in
    let rows_are : rows_of tree ≡ (b.front ++ (b.top ∷ early)) ++ (first ∷ (others ++ b.behind)) =
    rw (
      b.rows_are,
      sib.rows_are (Some parent) b.top.path b.top.url,
      sib.later_is,
      append_assoc early (first ∷ others) b.behind,
      append_assoc b.front (b.top ∷ early) (first ∷ (others ++ b.behind)),
    ) refl in
    let one = same_place sibling (b.front ++ (b.top ∷ early)) first (others ++ b.behind) k.front
    k.top
    (rows_below (Some sibling) k.top.path k.top.url (kids_of sibling tree) ++ k.behind)
    (sym rows_are ∙ k.rows_are) refl k.front_ids (All-append _ _ _ k.inner_ids k.behind_ids) in (
      sib.step,
      ap (λ (r : Page). r.path) own_block.1
          ∙ (ap (λ (r : Page). r.path) (sym one.1)
          ∙ ap (λ (r : Page). r.path ++ sib.step ∷ []) (sym block.1)),
    )
