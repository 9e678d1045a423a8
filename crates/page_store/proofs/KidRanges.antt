-- The kids of a page among the rows of its range.
use Rattle.std.proofs.Common.{◌≡◌, ℕ, suc, ◌+◌, ◌-◌, ◌<◌, ◌≤◌, Bool, true, false, cond, nat_eq, nat_lt, ◌&&◌, List, [], ◌∷◌, ◌++◌, Option, Some, None, IsSome, map, find, filter, length, take, drop, slice_get, refl, ap, sym, ◌∙◌, subst, arith, rules, add-one, length-append}
use Prim.Native.Nat.{zero}
use Rattle.std.proofs.lemmas.Bool.Decides.{nat_tests}
use Rattle.std.proofs.lemmas.List.{drop-drop, take-append-drop, append-nil}
use Rattle.std.specs.List.{AllByRecursion}
use Rattle.std.specs.Option.{option_map}
use Rattle.std.specs.Str.{bytes_eq}
use Rattle.page_tree.specs.Rows.{comes_before, row_with, is_parent, kids_in}
use Rattle.step_path.specs.Path.{IsPath, BeginsWith}
use Rattle.page_store.specs.PageRows.{above, parent_id, IsRange}
use Rattle.page_store.specs.Pages.{Page, EachPair, IsBefore, StartsAtRoot, ArePages}
use Rattle.page_store.specs.Search.{leading, begins}
use Rattle.page_store.specs.KidWalk.{kids_between}
use Rattle.page_store.proofs.PathOrder.{comes_before-self, begins-self, BeginsWith-begins, begins-BeginsWith}
use Rattle.page_store.proofs.Leading.{leading_pass, others_fail}
use Rattle.page_store.proofs.AllLemmas.{All-both}
use Rattle.page_store.proofs.InsertLemmas.{same_bytes}
use Rattle.page_store.proofs.KeptLemmas.{found_passes}
use Rattle.page_store.proofs.SeenLemmas.{found_by_own_id, All-find}
use Rattle.page_store.proofs.RangeLemmas.{All-at, All-drop, drop_at_place, pairs_at, below_first}
use Rattle.page_store.proofs.WindowLemmas.{All-window, All-behind, All-take, there_is, found_at, before_at, place_before, comes_before-behind, above-append, above-cons, last_step_of, above_before, before_above, begins_same_length}

-- one step of three paths that begin with each other
begins_step : (x y z : ℕ) (p q r : Bool) → (p ≡ true → q ≡ true → r ≡ true) →
    nat_eq x y && p ≡ true → nat_eq y z && q ≡ true → nat_eq x z && r ≡ true
begins_step x y z p q r h a b = grind (arith, nat_tests)

-- what begins with a path begins with what that one begins with
begins-trans : (a b c : List ℕ) → begins a b ≡ true → begins b c ≡ true → begins a c ≡ true
begins-trans [] b c h k = refl
begins-trans (x ∷ a) [] c h k = cc
begins-trans (x ∷ a) (y ∷ b) [] h k = cc
begins-trans (x ∷ a) (y ∷ b) (z ∷ c) h k = begins_step x y z _ _ _ (begins-trans a b c) h k

-- the test of a parent
parent_from_test : (p : ℕ) (o : Option ℕ) → is_parent p o ≡ true → o ≡ Some p
parent_from_test p None h = cc
parent_from_test p (Some q) h = let same : q ≡ p = grind (arith, nat_tests) in ap Some same

-- a test that would lead to nothing fails
fails_from : (t : Bool) → (t ≡ true → ⊥) → t ≡ false
fails_from true h = absurd (h refl)
fails_from false h = refl

-- kids behind rows that are none
pub kids_in-skip : (p : ℕ) (xs ys : List Page) →
    AllByRecursion (λ row. is_parent p row.parent ≡ false) xs → kids_in p (xs ++ ys) ≡ kids_in p ys
kids_in-skip p [] ys none = refl
kids_in-skip p (x ∷ xs) ys none = rw none.0 (kids_in-skip p xs ys none.1)

-- and before such
kids_in-stop : (p : ℕ) (xs ys : List Page) →
    AllByRecursion (λ row. is_parent p row.parent ≡ false) ys → kids_in p (xs ++ ys) ≡ kids_in p xs
kids_in-stop p [] ys none = (ap (λ rows. kids_in p rows) (sym (append-nil ys))) ∙ kids_in-skip p ys [] none
kids_in-stop p (x ∷ xs) ys none = by (is_parent p x.parent) (kids_in-stop p xs ys none)
  where
    by : (t : Bool) → kids_in p (xs ++ ys) ≡ kids_in p xs →
        map (λ (row : Page). row.id) (cond t (x ∷ filter (λ (row : Page). is_parent p row.parent)
        (xs ++ ys)) (filter (λ (row : Page). is_parent p row.parent) (xs ++
        ys))) ≡ map (λ (row : Page). row.id) (cond t (x ∷ filter (λ (row : Page). is_parent p
        row.parent) xs) (filter (λ (row : Page). is_parent p row.parent) xs))
    by true more = ap (λ ids. x.id ∷ ids) more
    by false more = more

-- the first m + n elements are the first m, and the first n behind them
take_parts : {X : Type 0} (m n : ℕ) (xs : List X) → take (m + n) xs ≡ take m xs ++ take n (drop m xs)
take_parts zero n xs = rw (let zero : 0 + n ≡ n = omega arith in zero) refl
take_parts (suc m) n [] =
    let same : suc m + n ≡ suc (m + n) = omega arith in rw same (none n)
  where
    none : {X : Type 0} (n : ℕ) → [] ≡ take n (let out : List X = [] in out)
    none zero = refl
    none (suc n) = refl
take_parts (suc m) n (x ∷ xs) =
    let same : suc m + n ≡ suc (m + n) = omega arith in
    rw same (ap (λ rest. x ∷ rest) (take_parts m n xs))

-- a later row has a parent
parent_at : (pages : List Page) (i : ℕ) (row : Page) → StartsAtRoot pages →
    slice_get pages (suc i) ≡ Some row → IsSome row.parent
parent_at [] i row root h = absurd root
parent_at (first ∷ rows) i row root h = All-at (λ later. IsSome later.parent) i rows row root.1 h

-- two rows with one path are one
same_path : (pages : List Page) (i j : ℕ) (a b : Page) → EachPair IsBefore pages →
    slice_get pages i ≡ Some a → slice_get pages j ≡ Some b → a.path ≡ b.path → a ≡ b
same_path pages i j a b order at there same = by (nat_lt i j) (nat_lt j i) refl refl
  where
    never : (x y : List ℕ) → x ≡ y → comes_before x y ≡ true → ⊥
    never x y e h = let self = comes_before-self y in
        let own : comes_before y y ≡ true = subst (λ (z : List ℕ). comes_before z y ≡ true) e h in
        cc

    by : (t u : Bool) → nat_lt i j ≡ t → nat_lt j i ≡ u → a ≡ b
    by true u e f = absurd (never a.path b.path same (before_at pages i j a b order at there (grind
        (arith, nat_tests))))
    by false true e f = absurd (never b.path a.path (sym same) (before_at pages j i b a order there
        at (grind (arith, nat_tests))))
    by false false e f =
        let one : i ≡ j = grind (arith, nat_tests) in
        let both : Some a ≡ Some b = sym at ∙ ap (λ k. slice_get pages k) one ∙ there in cc

module _ (pages : List Page) (are : ArePages pages) where
  -- a kid's path is its parent's with one step more
  kid_above : (path : List ℕ) (top : Page) (place : ℕ) → slice_get pages place ≡ Some top →
      parent_id path pages ≡ Some top.id → above path ≡ top.path
  kid_above path top place at is = by (find (λ (row : Page). bytes_eq row.path (above path)) pages) refl is
    where
      by : (o : Option Page) → find (λ (row : Page). bytes_eq row.path (above path)) pages ≡ o →
          option_map (λ (r : Page). r.id) o ≡ Some top.id → above path ≡ top.path
      by None e h = cc
      by (Some q) e h =
          let same : q.id ≡ top.id = cc in
          let own : row_with q.id pages ≡ Some q =
          All-find (λ (row : Page). row_with row.id pages ≡ Some row) (λ (row : Page). bytes_eq
          row.path (above path)) pages q (found_by_own_id pages are.own_ids) e in
          let theirs : row_with top.id pages ≡ Some top =
          All-at (λ (row : Page). row_with row.id pages ≡ Some row) place pages top
          (found_by_own_id pages are.own_ids) at in
          let both : Some q ≡ Some top = sym own ∙ ap (λ id. row_with id pages) same ∙ theirs in
          let one : q ≡ top = cc in
          let path_is = same_bytes q.path (above path) (found_passes (λ (row : Page). bytes_eq
          row.path (above path)) pages q e) in
          sym path_is ∙ ap (λ (r : Page). r.path) one

  module _ (top : Page) (top_place size : ℕ) (range : IsRange pages top top_place size) where
    -- each kid is one step below
    kids_below : AllByRecursion (λ row. is_parent top.id row.parent ≡ true →
        (above row.path ≡ top.path) × (0 < length row.path)) pages
    kids_below =
        All-both (λ row. row.parent ≡ parent_id row.path pages) (λ row. IsPath row.path) (λ row.
        is_parent top.id row.parent ≡ true →
        (above row.path ≡ top.path) × (0 < length row.path))
        (λ row is path test. (
          kid_above row.path top top_place range.page (sym is ∙ parent_from_test
              top.id row.parent test),
          path.some,
        )) pages are.parents are.paths

    -- a path one step below begins with the path above
    begins_above : (path : List ℕ) → above path ≡ top.path → 0 < length path → BeginsWith top.path path
    begins_above path is some = let last = last_step_of path some in (last.0 ∷ [], rw (← is) (sym last.1))

    -- A row inside the subtree is a kid, where no row further down can stand there.
    kid_inside : (i : ℕ) (row : Page) → slice_get pages i ≡ Some row → top_place < i → i < top_place + size
        → ((q : Page) (j a b : ℕ) (more : List ℕ) → slice_get pages j ≡ Some q →
        q.path ≡ above row.path → row.path ≡ top.path ++ a ∷ b ∷ more → j < i → top_place < j →
        ⊥) → row.parent ≡ Some top.id
    kid_inside zero row at low high deep = absurd (omega arith)
    kid_inside (suc i) row at low high deep =
        let inside = All-window (λ other. BeginsWith top.path other.path) pages top_place size (suc
        i) row range.inside at (omega arith) high in
        let is = All-at (λ (r : Page). r.parent ≡ parent_id r.path pages) (suc i) pages row are.parents at in
        let path = All-at (λ (r : Page). IsPath r.path) (suc i) pages row are.paths at in
        let some = subst IsSome is (parent_at pages i row are.root at) in
        let after = before_at pages top_place (suc i) top row are.in_order range.page at low in
        is ∙ by inside.0 (sym inside.1) path.some after (find (λ (r : Page). bytes_eq r.path (above
        row.path)) pages) refl some
      where
        by : (rest : List ℕ) → row.path ≡ top.path ++ rest → 0 < length row.path →
            comes_before top.path row.path ≡ true → (o : Option Page) →
            find (λ (r : Page). bytes_eq r.path (above row.path)) pages ≡ o →
            IsSome (option_map (λ (r : Page). r.id) o) →
            option_map (λ (r : Page). r.id) o ≡ Some top.id
        by rest is long after None e some = absurd (search rules)
        by [] is long after (Some q) e some =
            let same : row.path ≡ top.path = is ∙ append-nil top.path in
            let self = comes_before-self top.path in
            let own : comes_before top.path top.path ≡ true =
            subst (λ (path : List ℕ). comes_before top.path path ≡ true) same after in
            absurd cc
        by (a ∷ []) is long after (Some q) e some =
            let q_path = same_bytes q.path (above row.path) (found_passes (λ (r : Page). bytes_eq
            r.path (above row.path)) pages q e) in
            let above_is : above row.path ≡ top.path =
            ap above is ∙ above-append top.path a [] ∙ append-nil top.path in
            let place = found_at (λ (r : Page). bytes_eq r.path (above row.path)) pages q e in
            let one = same_path pages place.0 top_place q top are.in_order place.1 range.page
            (q_path ∙ above_is) in
            ap (λ (r : Page). Some r.id) one
        by (a ∷ b ∷ more) is long after (Some q) e some =
            let q_path = same_bytes q.path (above row.path) (found_passes (λ (r : Page). bytes_eq
            r.path (above row.path)) pages q e) in
            let place = found_at (λ (r : Page). bytes_eq r.path (above row.path)) pages q e in
            let below : above row.path ≡ top.path ++
            a ∷ above (b ∷ more) =
            ap above is ∙ above-append top.path a (b ∷ more) ∙ ap (λ rest. top.path ++
            rest) (above-cons a b more) in
            let before_row : comes_before q.path row.path ≡ true = rw q_path (above_before row.path long) in
            let before_q : comes_before top.path q.path ≡ true = rw (
              q_path,
              below,
            ) (sym (ap (λ path. comes_before path (top.path ++
            a ∷ above (b ∷ more))) (append-nil top.path)) ∙ comes_before-behind top.path [] (a ∷
            above (b ∷ more))) in
            absurd (deep q place.0 a b more place.1 q_path is (place_before pages place.0 (suc i) q
            row are.in_order place.1 at before_row) (place_before pages top_place place.0 top q
            are.in_order range.page place.1 before_q))

    -- the first row behind the page is a kid
    pub first_kid : (row : Page) → slice_get pages (top_place + 1) ≡ Some row →
        top_place + 1 < top_place + size → row.parent ≡ Some top.id
    first_kid row at high =
        kid_inside (top_place + 1) row at (omega arith) high (λ q j a b more there is path low
        behind. absurd (omega arith))

    -- the range has the page itself
    size_some : (n : ℕ) × (size ≡ suc n)
    size_some = by size refl
      where
        by : (m : ℕ) → size ≡ m → (n : ℕ) × (size ≡ suc n)
        by zero e =
            let same : top_place + size ≡ top_place = omega arith in
            let outside = All-behind (λ other. BeginsWith top.path other.path →
            ⊥) pages (top_place + size) top_place top range.after range.page (omega arith) in
            absurd (outside (BeginsWith-begins top.path top.path (begins-self top.path)))
        by (suc n) e = (n, e)

    -- rows that do not begin with the page's path are no kids
    no_kids_outside : (rows : List Page) → AllByRecursion (λ row. BeginsWith top.path row.path →
        ⊥) rows → AllByRecursion (λ row. is_parent top.id row.parent ≡ true →
        (above row.path ≡ top.path) × (0 < length row.path)) rows →
        AllByRecursion (λ row. is_parent top.id row.parent ≡ false) rows
    no_kids_outside rows outside below =
        All-both (λ row. BeginsWith top.path row.path →
        ⊥) (λ row. is_parent top.id row.parent ≡ true →
        (above row.path ≡ top.path)
        × (0 < length row.path)) (λ row. is_parent top.id row.parent ≡ false)
        (λ row out is. fails_from (is_parent top.id row.parent) (λ test. out (begins_above row.path
        (is test).0 (is test).1))) rows outside below

    -- no page is its own kid
    not_own_kid : is_parent top.id top.parent ≡ false
    not_own_kid =
        fails_from (is_parent top.id top.parent)
        (λ test.
        let is = All-at (λ (row : Page). is_parent top.id row.parent ≡ true →
        (above row.path ≡ top.path)
        × (0 < length row.path)) top_place pages top kids_below range.page test in
        let last = last_step_of top.path is.1 in
        let long : length top.path ≡ length top.path + 1 =
        ap length last.1 ∙ length-append (above top.path) (last.0 ∷ []) ∙ ap (λ (path : List ℕ).
        length path + 1) is.0 in
        omega arith)

    -- all kids stand in the page's subtree
    pub kids_between-all : kids_between top.id (top_place + 1) (top_place + size) pages ≡ kids_in top.id pages
    kids_between-all =
        let n = size_some.0 in
        let size_is = size_some.1 in
        let behind = drop (suc top_place) pages in
        let count : top_place + size - (top_place + 1) ≡ n = omega arith in
        let end : suc top_place + n ≡ top_place + size = omega arith in
        let first = kids_in-skip top.id (take top_place pages) (drop top_place pages)
        (no_kids_outside (take top_place pages) range.before (All-take (λ row. is_parent top.id
        row.parent ≡ true → (above row.path ≡ top.path)
        × (0 < length row.path)) top_place pages kids_below)) in
        let here : kids_in top.id (drop top_place pages) ≡ kids_in top.id behind =
        rw (drop_at_place top_place pages top range.page, not_own_kid) refl in
        let others = no_kids_outside (drop (top_place + size) pages) range.after (All-drop (λ row.
        is_parent top.id row.parent ≡ true →
        (above row.path ≡ top.path)
        × (0 < length row.path)) (top_place + size) pages kids_below) in
        let last = kids_in-stop top.id (take n behind) (drop n behind) (rw (
          drop-drop n (suc
              top_place) pages,
          end,
        ) others) in
        rw (count, add-one top_place)
        (sym (ap (λ rows. kids_in top.id rows) (sym (take-append-drop top_place pages)) ∙ first ∙
        here ∙ ap (λ rows. kids_in top.id rows) (sym (take-append-drop n behind)) ∙ last))

    module _ (place : ℕ) (kid : Page) (at : slice_get pages place ≡ Some kid) (low : top_place <
        place) (high : place < top_place + size) (is_kid : kid.parent ≡ Some top.id) where
      -- how many rows are below the kid
      abbrev below_kid : ℕ
      below_kid = leading (λ (other : Page). begins kid.path other.path) (drop (suc place) pages)

      -- the kid's path is the page's with one step more
      kid_path : (above kid.path ≡ top.path) × (0 < length kid.path)
      kid_path = All-at (λ (row : Page). is_parent top.id row.parent ≡ true →
          (above row.path ≡ top.path) × (0 < length row.path)) place pages kid kids_below at
          (let self : nat_eq top.id top.id ≡ true = grind (arith, nat_tests) in rw is_kid self)

      -- the kid's subtree ends within the page's
      pub next_within : suc place + below_kid ≤ length pages → top_place + size ≤ length pages →
          suc place + below_kid ≤ top_place + size
      next_within fits end_fits = by (nat_lt (top_place + size) (suc place + below_kid)) refl
        where
          by : (t : Bool) → nat_lt (top_place + size) (suc place + below_kid) ≡ t →
              suc place + below_kid ≤ top_place + size
          by true e =
              let past : top_place + size < suc place + below_kid = grind (arith, nat_tests) in
              let row = there_is pages (top_place + size) (omega arith) in
              let inside = All-window (λ other. begins kid.path other.path ≡ true) pages (suc place)
              below_kid (top_place + size) row.0 (leading_pass (λ (other : Page). begins
              kid.path other.path) (drop (suc place) pages)) row.1 (omega arith) past in
              let kid_inside = begins-BeginsWith top.path kid.path (begins_above kid.path kid_path.0
              kid_path.1) in
              let outside = All-behind (λ other. BeginsWith top.path other.path →
              ⊥) pages (top_place + size) (top_place + size) row.0 range.after row.1 (omega
              arith) in
              absurd (outside (BeginsWith-begins top.path row.0.path (begins-trans top.path kid.path
              row.0.path kid_inside inside)))
          by false e = grind (arith, nat_tests)

      -- no row below the kid is a kid of the page
      none_below : AllByRecursion (λ row. is_parent top.id row.parent ≡ false) (take below_kid (drop
          (suc place) pages))
      none_below =
          let inside = leading_pass (λ (other : Page). begins kid.path other.path) (drop (suc place) pages) in
          let behind = All-take (IsBefore kid) below_kid (drop (suc place) pages) (pairs_at IsBefore
          place pages kid are.in_order at).0 in
          let rows = All-take (λ row. is_parent top.id row.parent ≡ true →
          (above row.path ≡ top.path)
          × (0 < length row.path)) below_kid (drop (suc place) pages) (All-drop (λ row.
          is_parent top.id row.parent ≡ true →
          (above row.path ≡ top.path) × (0 < length row.path)) (suc place) pages kids_below) in
          let both = All-both (λ row. begins kid.path row.path ≡ true) (IsBefore kid) (λ row.
          (begins kid.path row.path ≡ true)
          × (comes_before kid.path row.path ≡ true)) (λ row a b. (a, b)) _ inside behind in
          All-both (λ row. (begins kid.path row.path ≡ true)
          × (comes_before kid.path row.path ≡ true)) (λ row. is_parent top.id row.parent ≡ true
          → (above row.path ≡ top.path)
          × (0 < length row.path)) (λ row. is_parent top.id row.parent ≡ false)
          (λ row facts is. fails_from (is_parent top.id row.parent) (λ test. clash row.path facts.0
          facts.1 (is test))) _ both rows
        where
          clash : (path : List ℕ) → begins kid.path path ≡ true →
              comes_before kid.path path ≡ true → (above path ≡ top.path) × (0 < length path) → ⊥
          clash path inside behind is =
              let mine = last_step_of kid.path kid_path.1 in
              let theirs = last_step_of path is.1 in
              let one : length kid.path ≡ length top.path + 1 =
              ap length mine.1 ∙ length-append (above kid.path) (mine.0 ∷ []) ∙ ap (λ (p : List
              ℕ). length p + 1) kid_path.0 in
              let other : length path ≡ length top.path + 1 =
              ap length theirs.1 ∙ length-append (above path) (theirs.0 ∷ []) ∙ ap (λ (p : List
              ℕ). length p + 1) is.0 in
              let same = begins_same_length kid.path path inside (omega arith) in
              let self = comes_before-self path in
              let own : comes_before path path ≡ true =
              subst (λ (p : List ℕ). comes_before p path ≡ true) same behind in
              cc

      -- the row behind the kid's subtree is the next kid
      pub next_kid : (row : Page) → slice_get pages (suc place + below_kid) ≡ Some row →
          suc place + below_kid < top_place + size → row.parent ≡ Some top.id
      next_kid row there last = kid_inside (suc place + below_kid) row there (omega arith) last deep
        where
          mine : (s : ℕ) × (kid.path ≡ above kid.path ++ s ∷ [])
          mine = last_step_of kid.path kid_path.1

          deep : (q : Page) (j a b : ℕ) (more : List ℕ) → slice_get pages j ≡ Some q →
              q.path ≡ above row.path → row.path ≡ top.path ++ a ∷ b ∷ more →
              j < suc place + below_kid → top_place < j → ⊥
          deep q j a b more q_at q_path path before behind =
              let first = below_first kid (drop (suc place) pages) (pairs_at IsBefore place pages
              kid are.in_order at).0 (pairs_at IsBefore place pages kid are.in_order at).1 in
              let fails = others_fail (λ (other : Page). begins kid.path other.path) (drop (suc
              place) pages) first in
              let apart : begins kid.path row.path ≡ false =
              All-behind (λ other. begins kid.path other.path ≡ false) pages (suc place +
              below_kid) (suc place + below_kid) row (rw drop-drop at fails) there (omega arith)
              in
              let kid_is : kid.path ≡ top.path ++ mine.0 ∷ [] = mine.1 ∙ ap (λ front. front ++
              mine.0 ∷ []) kid_path.0 in
              let ahead : comes_before kid.path row.path ≡ true =
              before_at pages place (suc place + below_kid) kid row are.in_order at there (omega
              arith) in
              let steps = before_above top.path mine.0 a b more (rw (
                kid_is,
                path,
              ) at ahead) (rw (kid_is, path) at apart) in
              let q_is : q.path ≡ above (top.path ++ a ∷ b ∷ more) = q_path ∙ ap above path in
              let ahead_q : comes_before kid.path q.path ≡ true = rw (kid_is, q_is) steps.0 in
              let apart_q : begins kid.path q.path ≡ false = rw (kid_is, q_is) steps.1 in
              let low_q = place_before pages place j kid q are.in_order at q_at ahead_q in
              let inside : begins kid.path q.path ≡ true =
              All-window (λ other. begins kid.path other.path ≡ true) pages (suc place)
              below_kid j q (leading_pass (λ (other : Page). begins kid.path other.path) (drop
              (suc place) pages)) q_at (omega arith) before in
              cc

      -- the kids from here on are this one and those behind its subtree
      pub kids_between-next : (end : ℕ) → suc place + below_kid ≤ end →
          kids_between top.id place end pages ≡ kid.id ∷ kids_between top.id (suc place + below_kid)
          end pages
      kids_between-next end within =
          let rest = end - (suc place + below_kid) in
          let count : end - place ≡ suc (below_kid + rest) = omega arith in
          let self : nat_eq top.id top.id ≡ true = grind (arith, nat_tests) in
          let test : is_parent top.id kid.parent ≡ true = rw is_kid self in
          rw (drop_at_place place pages kid at, count, test)
          (ap (λ ids. kid.id ∷ ids) (ap (λ rows. kids_in top.id rows) (take_parts below_kid rest
          (drop (suc place) pages)) ∙ kids_in-skip top.id (take below_kid (drop (suc place)
          pages)) (take rest (drop below_kid (drop (suc place) pages))) none_below ∙ ap (λ rows.
          kids_in top.id (take rest rows)) (drop-drop below_kid (suc place) pages)))
