-- The rows without the subtree of a page: they are pages, and the others are found as before.
use Rattle.std.proofs.Common.{◌≡◌, ℕ, suc, ◌+◌, ◌-◌, ◌<◌, ◌≤◌, Bool, true, false, cond, not, nat_eq, ◌&&◌, List, [], ◌∷◌, ◌++◌, Option, Some, None, IsSome, map, find, filter, length, take, drop, refl, ap, sym, ◌∙◌, arith, rules}
use Prim.Native.Nat.{zero}
use Rattle.std.proofs.lemmas.Bool.Decides.{nat_tests}
use Rattle.std.proofs.lemmas.List.{length-map, map-append, drop-drop}
use Rattle.std.specs.List.{AllByRecursion, list_any, take-map, drop-map}
use Rattle.std.specs.Option.{option_map, option_map_or}
use Rattle.std.specs.Str.{bytes_eq}
use Rattle.page_tree.specs.Rows.{comes_before, is_parent, row_with, kids_in}
use Rattle.step_path.specs.Path.{IsPath, BeginsWith}
use Rattle.site_types.specs.Ids.{IsPageId}
use Rattle.page_store.specs.PageRows.{above, parent_id, IsRange}
use Rattle.page_store.specs.Pages.{Page, EachPair, IsBefore, HasOtherId, HasOtherSlug, IsRootRow, StartsAtRoot, ArePages}
use Rattle.page_store.specs.Search.{begins}
use Rattle.page_store.specs.Changes.{changed, without_kid, without_row, without_range}
use Rattle.page_store.proofs.PathOrder.{comes_before-self, begins-self, BeginsWith-begins, begins-BeginsWith}
use Rattle.page_store.proofs.AllLemmas.{All-weaker, All-both, All-always, All-map}
use Rattle.page_store.proofs.InsertLemmas.{same_bytes}
use Rattle.page_store.proofs.SeenLemmas.{All-find, found_by_own_id, steps_of_kid}
use Rattle.page_store.proofs.KeptLemmas.{found_passes}
use Rattle.page_store.proofs.WindowLemmas.{above-cons}
use Rattle.page_store.proofs.ChangeLemmas.{after, All-changed, EachPair-changed, find-changed, count-changed, id_of_after, ids-changed}
use Rattle.page_store.proofs.CutLemmas.{not_true, count_none, All-stay, All-out, cut_window, EachPair-stay, find-stay, find-stay_kept, count-stay, count_one}

-- the parts of a test of two
pub both_true : (t u : Bool) → t && u ≡ true → (t ≡ true) × (u ≡ true)
both_true true true h = (refl, refl)
both_true true false h = absurd cc
both_true false u h = absurd cc

-- what begins the first steps of a path begins the path
begins_take : (path own : List ℕ) (k : ℕ) → begins path (take k own) ≡ true → begins path own ≡ true
begins_take [] own k h = refl
begins_take (x ∷ path) own zero h = absurd cc
begins_take (x ∷ path) [] (suc k) h = absurd cc
begins_take (x ∷ path) (y ∷ own) (suc k) h =
    let parts = both_true (nat_eq x y) (begins path (take k own)) h in
    rw (parts.0, begins_take path own k parts.1) refl

-- a path that begins another, and not the one above it, is that other
begins_last : (path own : List ℕ) → begins path own ≡ true → begins path (above own) ≡ false → path ≡ own
begins_last [] own h f = absurd cc
begins_last (x ∷ path) [] h f = absurd cc
begins_last (x ∷ []) (y ∷ []) h f =
    let parts = both_true (nat_eq x y) true h in
    let same : x ≡ y = grind (arith, nat_tests) in ap (λ z. z ∷ []) same
begins_last (x ∷ z ∷ path) (y ∷ []) h f =
    let parts = both_true (nat_eq x y) false h in absurd (let never = parts.1 in cc)
begins_last (x ∷ path) (y ∷ z ∷ own) h f =
    let parts = both_true (nat_eq x y) (begins path (z ∷ own)) h in
    let same : x ≡ y = grind (arith, nat_tests) in
    let fails : nat_eq x y && begins path (above (z ∷ own)) ≡ false =
    ap (begins (x ∷ path)) (sym (above-cons y z own)) ∙ f in
    let rest : begins path (above (z ∷ own)) ≡ false = rw parts.0 at fails in
    ap (λ w. w ∷ path) same ∙ ap (λ ps. y ∷ ps) (begins_last path (z ∷ own) h_rest rest)
  where
    h_rest : begins path (z ∷ own) ≡ true
    h_rest = (both_true (nat_eq x y) (begins path (z ∷ own)) h).1

-- what begins a path is no longer
begins_length : (path own : List ℕ) → begins path own ≡ true → length path ≤ length own
begins_length [] own h = omega arith
begins_length (x ∷ path) [] h = absurd cc
begins_length (x ∷ path) (y ∷ own) h =
    let parts = both_true (nat_eq x y) (begins path own) h in
    let rest = begins_length path own parts.1 in omega arith

-- a path of two steps or more does not begin that of the root
not_root : (path : List ℕ) → 1 < length path → begins path (1 ∷ []) ≡ false
not_root path long = not_true (begins path (1 ∷ [])) (λ h. too_long (length path) (begins_length path
    (1 ∷ []) h) long)
  where
    too_long : (n : ℕ) → n ≤ 1 → 1 < n → ⊥
    too_long n most least = absurd (omega arith)

-- two paths that are one do not come one before the other
not_before_same : (a b path : List ℕ) → a ≡ path → b ≡ path → comes_before a b ≡ true → ⊥
not_before_same a b path e f h =
    let self = comes_before-self path in
    let one : comes_before a b ≡ comes_before path path =
    ap (λ p. comes_before p b) e ∙ ap (λ p. comes_before path p) f in
    let never : true ≡ false = sym h ∙ one ∙ self in cc

-- a row with the path of the row that is found has its id
same_path : (id : ℕ) (rows : List Page) (row : Page) → EachPair IsBefore rows →
    row_with id rows ≡ Some row → AllByRecursion (λ r. r.path ≡ row.path → r.id ≡ id) rows
same_path id [] row order found = tt
same_path id (one ∷ rows) row order found =
    by (nat_eq one.id id) refl found (same_path id rows row order.1)
  where
    by : (t : Bool) → nat_eq one.id id ≡ t → cond t (Some one) (row_with id rows) ≡ Some row →
        (row_with id rows ≡ Some row →
        AllByRecursion (λ r. r.path ≡ row.path → r.id ≡ id) rows) →
        AllByRecursion (λ r. r.path ≡ row.path → r.id ≡ id) (one ∷ rows)
    by true e h more =
        let same : one ≡ row = cc in
        let path : one.path ≡ row.path = ap (λ (r : Page). r.path) same in
        let own : one.id ≡ id = grind (arith, nat_tests) in (
          λ p. own,
          All-weaker (IsBefore one) (λ r. r.path ≡ row.path → r.id ≡ id) (λ r before p. absurd
              (not_before_same one.path r.path row.path path p before)) rows order.0,
        )
    by false e h more = (
      λ p. absurd (not_before_same one.path row.path row.path p refl (All-find (IsBefore one) (λ (r
          : Page). nat_eq r.id id) rows row order.0 h)),
      more h,
    )

-- pairs of which one thing holds, where another follows
pub EachPair-weaker : (R S : Page → Page → Type 0) → ((one other : Page) → R one other → S one other) →
    (rows : List Page) → EachPair R rows → EachPair S rows
EachPair-weaker R S w [] pairs = tt
EachPair-weaker R S w (row ∷ rows) pairs =
    (All-weaker (R row) (S row) (w row) rows pairs.0, EachPair-weaker R S w rows pairs.1)

-- a parent that passes the test is that page
parent_is : (q : ℕ) (parent : Option ℕ) → is_parent q parent ≡ true → parent ≡ Some q
parent_is q None h = absurd cc
parent_is q (Some p) h = let same : p ≡ q = grind (arith, nat_tests) in ap Some same

module _ (pages : List Page) (are : ArePages pages) (id p : ℕ) (row : Page)
    (found : row_with id pages ≡ Some row) (below : row.parent ≡ Some p) where
  -- whether a row goes
  abbrev pub out : Page → Bool
  out r = begins row.path r.path

  -- those that stay
  abbrev rest : List Page
  rest = filter (λ r. not (begins row.path r.path)) pages

  -- those that stay, where the parent has one child less
  abbrev pub all : List Page
  all = changed p without_kid rest

  -- the parent is the page above the path
  parent_found : parent_id row.path pages ≡ Some p
  parent_found = sym (All-find (λ r. r.parent ≡ parent_id r.path pages) (λ (r : Page). nat_eq r.id
      id) pages row are.parents found) ∙ below

  -- so the path has two steps or more
  long : 1 < length row.path
  long = steps_of_kid row.path pages are.paths (rw parent_found (search rules))

  -- the root stays the first row
  root_stays : (rows : List Page) → StartsAtRoot rows →
      StartsAtRoot (filter (λ r. not (begins row.path r.path)) rows)
  root_stays [] root = absurd root
  root_stays (top ∷ rows) root =
      let stays : begins row.path top.path ≡ false = rw root.0.path_is (not_root row.path long) in
      rw stays (
        root.0,
        All-stay out (λ later. IsSome later.parent) rows (All-weaker (λ later. IsSome
            later.parent) (λ later. out later ≡ false → IsSome later.parent) (λ r h e. h) rows root.1),
      )

  -- also with one child less
  root_changed : (rows : List Page) → StartsAtRoot rows → StartsAtRoot (changed p without_kid rows)
  root_changed [] root = root
  root_changed (top ∷ rows) root = (
    by (nat_eq top.id p),
    All-changed (λ later. IsSome later.parent) p without_kid (λ r h. h) rows root.1,
  )
    where
      by : (t : Bool) → IsRootRow (cond t (without_kid top) top)
      by true = record {
        id_is = root.0.id_is;
        no_parent = root.0.no_parent;
        path_is = root.0.path_is;
        no_slug = root.0.no_slug;
      }
      by false = root.0

  -- what holds of each row, whatever its child count, holds of each that stays
  each : (P : Page → Type 0) → ((r : Page) → P r → P (without_kid r)) → AllByRecursion P pages →
      AllByRecursion P all
  each P keeps holds = All-changed P p without_kid keeps rest (All-stay out P pages (All-weaker P (λ
      r. out r ≡ false → P r) (λ r h e. h) pages holds))

  -- and of each pair
  pairs : (R : Page → Page → Type 0) → ((r later : Page) → R r later → R (without_kid r) later) →
      ((r later : Page) → R r later → R r (without_kid later)) → EachPair R pages → EachPair R all
  pairs R first second holds =
      EachPair-changed R p without_kid first second rest (EachPair-stay out out R pages holds)

  -- a search that does not look at the child count finds the same among those that stay
  same_found : (test : Page → Bool) → ((r : Page) → test (without_kid r) ≡ test r) →
      option_map (λ (r : Page). r.id) (find test all) ≡ option_map (λ (r : Page). r.id) (find test
      rest)
  same_found test keeps =
      ap (λ o. option_map (λ (r : Page). r.id) o) (find-changed test p without_kid rest
      (All-always (λ r. nat_eq r.id p ≡ true → test (without_kid r) ≡ test r) (λ r e. keeps r)
      rest))
      ∙ id_of_after p without_kid (λ r. refl) (find test rest)

  -- the parent of a page that stays stays
  parent_stays : (path : List ℕ) → begins row.path path ≡ false →
      parent_id path all ≡ parent_id path pages
  parent_stays path stays =
      same_found (λ r. bytes_eq r.path (above path)) (λ r. refl)
      ∙ ap (λ o. option_map (λ (r : Page). r.id) o) (find-stay_kept out (λ r. bytes_eq r.path (above
      path)) pages (All-always (λ r. bytes_eq r.path (above path) ≡ true → out r ≡ false) above_stays
      pages))
    where
      above_stays : (r : Page) → bytes_eq r.path (above path) ≡ true → out r ≡ false
      above_stays r e =
          let same : r.path ≡ above path = same_bytes r.path (above path) e in
          not_true (out r) (λ h. let there = begins_take row.path path (length path - 1) (ap (begins
          row.path) (sym same) ∙ h) in let never : true ≡ false = sym there ∙ stays in cc)

  -- a page that goes below one that stays is the page itself
  kid_goes : (k r : Page) → k.parent ≡ parent_id k.path pages → row_with r.id pages ≡ Some r →
      out k ≡ true → out r ≡ false → k.parent ≡ Some r.id → (k.path ≡ row.path) × (p ≡ r.id)
  kid_goes k r is there goes stays parent =
      by (find (λ (x : Page). bytes_eq x.path (above k.path)) pages) refl
    where
      by : (o : Option Page) → find (λ (x : Page). bytes_eq x.path (above k.path)) pages ≡ o →
          (k.path ≡ row.path) × (p ≡ r.id)
      by None e =
          let none : parent_id k.path pages ≡ None = ap (λ o. option_map (λ (x : Page). x.id) o) e in
          let never : Some r.id ≡ None = sym parent ∙ is ∙ none in absurd cc
      by (Some x) e =
          let some : parent_id k.path pages ≡ Some x.id = ap (λ o. option_map (λ (x : Page). x.id) o)
          e in
          let ids : Some x.id ≡ Some r.id = sym some ∙ sym is ∙ parent in
          let one : x.id ≡ r.id = cc in
          let own : row_with x.id pages ≡ Some x = All-find (λ (x : Page). row_with x.id pages ≡ Some
          x) (λ (x : Page). bytes_eq x.path (above k.path)) pages x (found_by_own_id pages
          are.own_ids) e in
          let rows : Some x ≡ Some r = sym own ∙ ap (λ n. row_with n pages) one ∙ there in
          let same : x ≡ r = cc in
          let path : x.path ≡ above k.path = same_bytes x.path (above k.path) (found_passes (λ (x :
          Page). bytes_eq x.path (above k.path)) pages x e) in
          let not_above : begins row.path (above k.path) ≡ false =
          ap (begins row.path) (sym path) ∙ ap out same ∙ stays in
          let last : row.path ≡ k.path = begins_last row.path k.path goes not_above in
          let parents : Some r.id ≡ Some p =
          sym parent ∙ is ∙ ap (λ q. parent_id q pages) (sym last) ∙ parent_found in
          (sym last, (let numbers : r.id ≡ p = cc in sym numbers))

  -- how many kids of a page that stays go: of the parent one, of another page none
  kids_gone : (r : Page) → row_with r.id pages ≡ Some r → out r ≡ false → (t : Bool) →
      nat_eq r.id p ≡ t →
      length (filter (λ (k : Page). is_parent r.id k.parent) (filter out pages)) ≡ cond t 1 0
  kids_gone r there stays true e =
      let same : r.id ≡ p = grind (arith, nat_tests) in
      count_one out (λ k. is_parent r.id k.parent) id pages row are.own_ids found (rw below (let self
      : nat_eq p r.id ≡ true = grind (arith, nat_tests) in self)) (begins-self row.path)
      (All-both (λ k. k.parent ≡ parent_id k.path pages) (λ k. k.path ≡ row.path → k.id ≡ id) (λ k.
      nat_eq k.id id ≡ false → out k ≡ true → is_parent r.id k.parent ≡ false) (λ k is own differ
      goes. not_true (is_parent r.id k.parent) (λ h. other_id k.id differ (own (kid_goes k r is there
      goes stays (parent_is r.id k.parent h)).0))) pages are.parents (same_path id pages row
      are.in_order found))
    where
      other_id : (n : ℕ) → nat_eq n id ≡ false → n ≡ id → ⊥
      other_id n differ same = grind (arith, nat_tests)
  kids_gone r there stays false e =
      count_none (λ k. is_parent r.id k.parent) (filter out pages) (All-out out (λ k. is_parent r.id
      k.parent ≡ false) pages (All-weaker (λ k. k.parent ≡ parent_id k.path pages) (λ k. out k ≡ true
      → is_parent r.id k.parent ≡ false) (λ k is goes. not_true (is_parent r.id k.parent) (λ h.
      other_parent (kid_goes k r is there goes stays (parent_is r.id k.parent h)).1)) pages
      are.parents))
    where
      other_parent : p ≡ r.id → ⊥
      other_parent same = grind (arith, nat_tests)

  -- a row has as many children as it says
  abbrev Counted : Page → Type 0
  Counted r = r.numchild ≡ length (kids_in r.id all)

  -- each page's child count is the number of its kids
  all_counts : AllByRecursion Counted all
  all_counts =
      All-map Counted (after p without_kid) rest (All-stay out (λ r. Counted (after p without_kid r))
      pages (All-both (λ r. r.numchild ≡ length (kids_in r.id pages)) (λ r. row_with r.id pages ≡
      Some r) (λ r. out r ≡ false → Counted (after p without_kid r)) (λ r is there stays. count r is
      there stays (nat_eq r.id p) refl) pages are.counts (found_by_own_id pages are.own_ids)))
    where
      count : (r : Page) → r.numchild ≡ length (kids_in r.id pages) → row_with r.id pages ≡ Some r →
          out r ≡ false → (t : Bool) → nat_eq r.id p ≡ t → Counted (cond t (without_kid r) r)
      count r is there stays t e = by t (kids_gone r there stays t e)
        where
          kids_all : length (kids_in r.id all) ≡ length (filter (λ (k : Page). is_parent r.id
              k.parent) rest)
          kids_all = length-map _ (λ (k : Page). k.id) ∙ count-changed (λ k. is_parent r.id k.parent)
              p without_kid (λ k. refl) rest

          kids_pages : length (kids_in r.id pages) ≡ length (filter (λ (k : Page). is_parent r.id
              k.parent) pages)
          kids_pages = length-map _ (λ (k : Page). k.id)

          sum : length (filter (λ (k : Page). is_parent r.id k.parent) rest) + length (filter (λ (k :
              Page). is_parent r.id k.parent) (filter out pages)) ≡ length (filter (λ (k : Page).
              is_parent r.id k.parent) pages)
          sum = count-stay out (λ k. is_parent r.id k.parent) pages

          minus_one : (n kids now old stay gone : ℕ) → n ≡ kids → now ≡ stay → kids ≡ old →
              stay + gone ≡ old → gone ≡ 1 → n - 1 ≡ now
          minus_one n kids now old stay gone a b c d e = omega arith

          minus_none : (n kids now old stay gone : ℕ) → n ≡ kids → now ≡ stay → kids ≡ old →
              stay + gone ≡ old → gone ≡ 0 → n ≡ now
          minus_none n kids now old stay gone a b c d e = omega arith

          by : (t : Bool) → length (filter (λ (k : Page). is_parent r.id k.parent) (filter out
              pages)) ≡ cond t 1 0 → Counted (cond t (without_kid r) r)
          by true gone = minus_one _ _ _ _ _ _ is kids_all kids_pages sum gone
          by false gone = minus_none _ _ _ _ _ _ is kids_all kids_pages sum gone

  -- they are the rows of a tree again
  pub are_pages-without : ArePages all
  are_pages-without = record {
    root = root_changed rest (root_stays pages are.root);
    ids_fit = each (λ r. IsPageId r.id) (λ r h. h) are.ids_fit;
    paths = each (λ r. IsPath r.path) (λ r h. h) are.paths;
    in_order = pairs IsBefore (λ r later h. h) (λ r later h. h) are.in_order;
    own_ids = pairs HasOtherId (λ r later h. h) (λ r later h. h) are.own_ids;
    parents = All-changed (λ r. r.parent ≡ parent_id r.path all) p without_kid (λ r h. h) rest
        (All-stay out (λ r. r.parent ≡ parent_id r.path all) pages (All-weaker (λ r. r.parent ≡
        parent_id r.path pages) (λ r. out r ≡ false → r.parent ≡ parent_id r.path all) (λ r is stays.
        is ∙ sym (parent_stays r.path stays)) pages are.parents));
    counts = all_counts;
    own_slugs = pairs HasOtherSlug (λ r later h. h) (λ r later h. h) are.own_slugs;
  }

  -- a page is found by its id among those that stay, unless it goes
  pub found_stays : (q : ℕ) → row_with q rest ≡ cond (list_any (λ (r : Page). nat_eq r.id q) (filter out
      pages)) None (row_with q pages)
  found_stays q = find-stay out (λ r. nat_eq r.id q) pages (EachPair-weaker HasOtherId (λ one later.
      nat_eq one.id q ≡ true → nat_eq later.id q ≡ true → ⊥) (λ one later differ e f. differ (grind
      (arith, nat_tests))) pages are.own_ids)

  -- the rows without the page's subtree are these
  pub without_is : without_range id pages ≡ all
  without_is =
      ap (λ o. option_map_or (without_row pages) o pages) found
      ∙ ap (λ q. option_map_or (λ parent. changed parent without_kid rest) q rest) below

  module _ (place n : ℕ) (range : IsRange pages row place n) where
    -- those that stay stand before the range and behind it, and those that go in it
    window : (rest ≡ take place pages ++ drop (place + n) pages)
        × (filter out pages ≡ take n (drop place pages))
    window =
        let parts = cut_window out place n pages (All-weaker (λ r. BeginsWith row.path r.path → ⊥) (λ
        r. out r ≡ false) fails (take place pages) range.before) (All-weaker (λ r. BeginsWith
        row.path r.path) (λ r. out r ≡ true) (λ r h. begins-BeginsWith row.path r.path h) (take n
        (drop place pages)) range.inside) (rw (drop-drop n place pages) (All-weaker (λ r. BeginsWith
        row.path r.path → ⊥) (λ r. out r ≡ false) fails (drop (place + n) pages) range.after)) in
        (parts.0 ∙ ap (λ ys. take place pages ++ ys) (drop-drop n place pages), parts.1)
      where
        fails : (r : Page) → (BeginsWith row.path r.path → ⊥) → out r ≡ false
        fails r never = not_true (out r) (λ h. never (BeginsWith-begins row.path r.path h))

    -- the ids of those that stay, in their order
    pub ids_stay : (order : List ℕ) → map (λ (r : Page). r.id) pages ≡ order →
        map (λ (r : Page). r.id) all ≡ take place order ++ drop (place + n) order
    ids_stay order is =
        ids-changed p without_kid (λ r. refl) rest
        ∙ ap (map (λ (r : Page). r.id)) window.0
        ∙ map-append (λ (r : Page). r.id) (take place pages) (drop (place + n) pages)
        ∙ ap (λ xs. xs ++ map (λ (r : Page). r.id) (drop (place + n) pages)) (sym (take-map (λ (r :
        Page). r.id) place pages))
        ∙ ap (λ ys. take place (map (λ (r : Page). r.id) pages) ++ ys) (sym (drop-map (λ (r : Page).
        r.id) (place + n) pages))
        ∙ ap (λ ids. take place ids ++ drop (place + n) ids) is

    -- the ids of those that go
    pub ids_go : (order xs : List ℕ) → map (λ (r : Page). r.id) pages ≡ order → xs ≡ order →
        take (place + n - place) (drop place xs) ≡ map (λ (r : Page). r.id) (filter out pages)
    ids_go order xs is same =
        let size : place + n - place ≡ n = omega arith in
        rw (size, same, ← is) (ap (take n) (drop-map (λ (r : Page). r.id) place pages)
        ∙ take-map (λ (r : Page). r.id) n (drop place pages)
        ∙ ap (map (λ (r : Page). r.id)) (sym window.1))
