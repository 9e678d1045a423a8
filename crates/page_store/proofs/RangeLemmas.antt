-- The rows that begin with a page's path stand together behind it.
use Rattle.std.proofs.Common.{◌≡◌, ℕ, suc, ◌+◌, ◌-◌, ◌<◌, ◌≤◌, Bool, true, false, cond, nat_eq, nat_lt, ◌&&◌, List, [], ◌∷◌, Option, Some, None, map, find, length, take, drop, slice_get, get_or, refl, ap, sym, ◌∙◌, subst, arith, add-one, length-drop}
use Prim.Native.Nat.{zero}
use Rattle.std.proofs.lemmas.Bool.Decides.{nat_tests}
use Rattle.std.proofs.lemmas.List.{drop-drop, take_rest}
use Rattle.std.proofs.lemmas.Option.{slice_get-map}
use Rattle.std.specs.List.{AllByRecursion}
use Rattle.std.specs.Option.{option_map, IfSome}
use Rattle.std.specs.Map.{lookup}
use Rattle.page_tree.specs.Rows.{comes_before, row_with}
use Rattle.step_path.specs.Path.{steps_of, BeginsWith}
use Rattle.page_store.specs.declared.stored.StoredRow.{StoredRow}
use Rattle.page_store.specs.declared.kid_index.KidIndex.{KidIndex}
use Rattle.page_store.specs.declared.search.Front.TheVariants.{Below}
use Rattle.page_store.specs.PageRows.{IsRange}
use Rattle.page_store.specs.Pages.{Page, EachPair, IsBefore}
use Rattle.page_store.specs.Kept.{seen, IsKept}
use Rattle.page_store.specs.Search.{leading, PassFirst, begins, is_front}
use Rattle.page_store.proofs.PathOrder.{comes_before-self, begins-self, begins-between, BeginsWith-begins, begins-BeginsWith}
use Rattle.page_store.proofs.Leading.{leading-map, PassFirst-map, leading_pass, others_fail, leading-le-length}
use Rattle.page_store.proofs.AllLemmas.{All-weaker}
use Rattle.page_store.proofs.SeenLemmas.{fronts, kept_of_own_id, All-find}

-- what holds of each element holds of the later ones
pub All-drop : {X : Type 0} (P : X → Type 0) (n : ℕ) (xs : List X) → AllByRecursion P xs →
    AllByRecursion P (drop n xs)
All-drop P zero xs all = all
All-drop P (suc n) [] all = tt
All-drop P (suc n) (x ∷ xs) all = All-drop P n xs all.1

-- and of the one at a place
pub All-at : {X : Type 0} (P : X → Type 0) (n : ℕ) (xs : List X) (x : X) → AllByRecursion P xs →
    slice_get xs n ≡ Some x → P x
All-at P n [] x all h = cc
All-at P zero (y ∷ xs) x all h = let one : y ≡ x = cc in subst P one all.0
All-at P (suc n) (y ∷ xs) x all h = All-at P n xs x all.1 h

-- the later elements of what a function gives
drop-map : {X Y : Type 0} (f : X → Y) (n : ℕ) (xs : List X) → drop n (map f xs) ≡ map f (drop n xs)
drop-map f zero xs = refl
drop-map f (suc n) [] = refl
drop-map f (suc n) (x ∷ xs) = drop-map f n xs

-- the one at a place and those behind it
pub drop_at_place : {X : Type 0} (n : ℕ) (xs : List X) (x : X) → slice_get xs n ≡ Some x →
    drop n xs ≡ x ∷ drop (suc n) xs
drop_at_place n [] x h = cc
drop_at_place zero (y ∷ xs) x h = let one : y ≡ x = cc in ap (λ z. z ∷ xs) one
drop_at_place (suc n) (y ∷ xs) x h = drop_at_place n xs x h

-- a row and those behind it, those behind it among themselves, and those before it
pub pairs_at : (R : Page → Page → Type 0) (n : ℕ) (rows : List Page) (row : Page) →
    EachPair R rows → slice_get rows n ≡ Some row →
    AllByRecursion (R row) (drop (suc n) rows) × EachPair R (drop (suc n) rows)
    × AllByRecursion (λ other. R other row) (take n rows)
pairs_at R n [] row pairs h = cc
pairs_at R zero (other ∷ rows) row pairs h =
    let one : other ≡ row = cc in (subst (λ (r : Page). AllByRecursion (R r) rows) one pairs.0, pairs.1, tt)
pairs_at R (suc n) (other ∷ rows) row pairs h =
    let more = pairs_at R n rows row pairs.1 h in
    (more.0, more.1, (All-at (R other) n rows row pairs.0 h, more.2))

-- rows behind one, of which those below it stand first
pub below_first : (row : Page) (rows : List Page) → AllByRecursion (IsBefore row) rows →
    EachPair IsBefore rows → PassFirst (λ other. begins row.path other.path) rows
below_first row [] behind order = tt
below_first row (one ∷ rows) behind order = (
  (λ fails. All-weaker (IsBefore one) (λ other. begins row.path other.path ≡ false) (λ other
      after. by other after fails (begins row.path other.path) refl) rows order.0),
  below_first row rows behind.1 order.1,
)
  where
    by : (other : Page) → IsBefore one other → begins row.path one.path ≡ false → (t : Bool) →
        begins row.path other.path ≡ t → begins row.path other.path ≡ false
    by other after fails true e = let between =
        begins-between row.path one.path other.path behind.0 after e in absurd cc
    by other after fails false e = e

-- one step of a path that is below another
below_step : (x y : ℕ) (p q : Bool) → (p ≡ true → q ≡ false) → nat_eq x y && p ≡ true →
    cond (nat_eq y x) q (nat_lt y x) ≡ false
below_step x y p q h a = grind (arith, nat_tests)

-- a path below another does not come before it
pub not_before_above : (path own : List ℕ) → begins path own ≡ true → comes_before own path ≡ false
not_before_above [] [] h = refl
not_before_above [] (y ∷ own) h = refl
not_before_above (x ∷ path) [] h = cc
not_before_above (x ∷ path) (y ∷ own) h = below_step x y _ _ (not_before_above path own) h

-- the place of a page that is found
pub own_place : (test : Page → Bool) (rows : List Page) (row : Page) → EachPair IsBefore rows →
    find test rows ≡ Some row →
    slice_get rows (leading (λ other. comes_before other.path row.path) rows) ≡ Some row
own_place test [] row order h = cc
own_place test (one ∷ rows) row order h = by (test one) refl h (own_place test rows row order.1)
  where
    by : (t : Bool) → test one ≡ t → cond t (Some one) (find test rows) ≡ Some row →
        (find test rows ≡ Some row →
        slice_get rows (leading (λ other. comes_before other.path row.path) rows) ≡ Some row) →
        slice_get (one ∷ rows) (leading (λ other. comes_before other.path row.path) (one ∷ rows)) ≡
        Some row
    by true e h more =
        let same : one ≡ row = cc in
        let last : comes_before one.path row.path ≡ false = rw same (comes_before-self row.path) in
        rw last (ap Some same)
    by false e h more =
        let before : comes_before one.path row.path ≡ true =
        All-find (IsBefore one) test rows row order.0 h in
        rw (before, add-one) (more h)

-- the rows of the subtree of the page at a place
pub range_at : (pages : List Page) (row : Page) (place n : ℕ) → EachPair IsBefore pages →
    slice_get pages place ≡ Some row →
    n ≡ leading (λ other. begins row.path other.path) (drop (suc place) pages) →
    place + suc n ≤ length pages → IsRange pages row place (suc n)
range_at pages row place n order at is within =
    let parts = pairs_at IsBefore place pages row order at in
    let first = below_first row (drop (suc place) pages) parts.0 parts.1 in
    let test : Page → Bool = λ other. begins row.path other.path in
    record {
      page = at;
      within = within;
      inside = rw (
        drop_at_place place pages row at,
        is,
      ) (
        BeginsWith-begins row.path row.path (begins-self row.path),
        All-weaker (λ other. begins row.path other.path ≡ true) (λ other. BeginsWith row.path
            other.path) (λ other h. BeginsWith-begins row.path other.path h) _ (leading_pass test
            (drop (suc place) pages)),
      );
      before = All-weaker (λ other. IsBefore other row) (λ other. BeginsWith row.path other.path →
          ⊥) (λ other before h. let not =
          not_before_above row.path other.path (begins-BeginsWith row.path other.path h) in
          cc) (take place pages) parts.2;
      after = behind (others_fail test (drop (suc place) pages) first);
    }
  where
    fails : (other : Page) → begins row.path other.path ≡ false → BeginsWith row.path other.path → ⊥
    fails other not h = let passes = begins-BeginsWith row.path other.path h in cc

    behind : AllByRecursion (λ other. begins row.path other.path ≡ false) (drop (leading (λ other.
        begins row.path other.path) (drop (suc place) pages)) (drop (suc place) pages)) →
        AllByRecursion (λ other. BeginsWith row.path other.path → ⊥) (drop (place + suc n) pages)
    behind all =
        let same : place + suc n ≡ suc place + n = omega arith in
        rw (
          same,
          ← drop-drop n (suc place) pages,
          is,
        ) (All-weaker (λ other. begins row.path other.path ≡ false) (λ other. BeginsWith
        row.path other.path → ⊥) fails _ all)

-- an element that was read is the one at the place
read_at : (xs : List ℕ) (n x : ℕ) → n < length xs → x ≡ get_or xs n x → slice_get xs n ≡ Some x
read_at [] n x within is = absurd (omega arith)
read_at (y ∷ xs) zero x within is = ap Some (sym is)
read_at (y ∷ xs) (suc n) x within is = read_at xs n x (omega arith) is

module _ (stored : List (ℕ × StoredRow)) (order : List ℕ) (kids : KidIndex) (pages : List Page)
    (kept : IsKept stored order kids pages) where
  -- what is kept of the page at a place
  pub kept_at : (place : ℕ) (row : Page) → slice_get pages place ≡ Some row →
      option_map seen (lookup (nat_eq row.id) stored) ≡ Some row
  kept_at place row at =
      All-at (λ (row : Page). option_map seen (lookup (nat_eq row.id) stored) ≡ Some row) place
      pages row (kept_of_own_id stored order kids pages kept) at

  -- how many of the pages behind a place are below a path
  pub below_found : (path : List ℕ) (n : ℕ) →
      leading (is_front Below path stored) (drop n order) ≡ leading (λ other. begins path
      other.path) (drop n pages)
  below_found path n =
      rw (← kept.ids, drop-map (λ (r : Page). r.id) n pages)
      (leading-map (λ (row : Page). row.id) (is_front Below path stored) (λ row. begins path
      row.path) (drop n pages) (All-drop (λ row. is_front Below path stored row.id ≡ begins path
      row.path) n pages (fronts stored order kids pages kept Below path)))

  -- those that are below the page at a place stand first behind it
  pub belows_first : (place : ℕ) (row : Page) → slice_get pages place ≡ Some row →
      PassFirst (is_front Below row.path stored) (drop (suc place) order)
  belows_first place row at =
      let parts = pairs_at IsBefore place pages row kept.are_pages.in_order at in
      rw (← kept.ids, drop-map (λ (r : Page). r.id) (suc place) pages)
      (PassFirst-map (λ (row : Page). row.id) (is_front Below row.path stored) (λ other. begins
      row.path other.path) (drop (suc place) pages)
      (All-drop (λ other. is_front Below row.path stored other.id ≡ begins row.path other.path) (suc
      place) pages (fronts stored order kids pages kept Below row.path)) (below_first row (drop
      (suc place) pages) parts.0 parts.1))

  -- the row of the page whose id was read at a place
  pub row_at : (place id : ℕ) (page : StoredRow) → place < length order →
      id ≡ get_or order place id → Some page ≡ lookup (nat_eq id) stored →
      slice_get pages place ≡ Some (seen page)
  row_at place id page within is found =
      by (slice_get pages place) refl (sym (slice_get-map (λ (r : Page). r.id) pages place) ∙ ap (λ
      ids. slice_get ids place) kept.ids ∙ read_at order place id within is)
    where
      by : (o : Option Page) → slice_get pages place ≡ o →
          option_map (λ (r : Page). r.id) o ≡ Some id → slice_get pages place ≡ Some (seen page)
      by None e h = cc
      by (Some row) e h =
          let one : row.id ≡ id = cc in
          let own = kept_at place row e in
          let mine : option_map seen (lookup (nat_eq id) stored) ≡ Some row = rw (← one) own in
          let theirs : Some (seen page) ≡ option_map seen (lookup (nat_eq id) stored) =
          ap (option_map seen) found in
          e ∙ sym mine ∙ sym theirs

  -- a page whose id was read at a place is kept
  pub kept_is_there : (place id : ℕ) → place < length order → id ≡ get_or order place id →
      None ≡ lookup (nat_eq id) stored → ⊥
  kept_is_there place id within is none =
      by (slice_get pages place) refl (sym (slice_get-map (λ (r : Page). r.id) pages place) ∙ ap (λ
      ids. slice_get ids place) kept.ids ∙ read_at order place id within is)
    where
      by : (o : Option Page) → slice_get pages place ≡ o → option_map (λ (r : Page). r.id) o ≡ Some id → ⊥
      by None e h = cc
      by (Some row) e h =
          let one : row.id ≡ id = cc in
          let own = kept_at place row e in
          let mine : option_map seen (lookup (nat_eq id) stored) ≡ Some row = rw (← one) own in
          let theirs : None ≡ option_map seen (lookup (nat_eq id) stored) = ap (option_map seen) none in
          let never : None ≡ Some row = theirs ∙ mine in cc

  -- the pages behind a place, as a slice of the order, of which those below the page at the place stand first
  pub slice_first : (place : ℕ) (page : StoredRow) (text xs : List ℕ) → xs ≡ order →
      text ≡ page.row.path → slice_get pages place ≡ Some (seen page) →
      PassFirst (is_front Below (steps_of text) stored) (take (length xs - (place + 1)) (drop (place
      + 1) xs))
  slice_first place page text xs is same at = rw (
    take_rest xs (place + 1),
    is,
    same,
    add-one place,
  ) (belows_first place (seen page) at)

  -- how many they are
  pub slice_count : (place : ℕ) (page : StoredRow) (text xs : List ℕ) → xs ≡ order →
      text ≡ page.row.path →
      leading (is_front Below (steps_of text) stored) (take (length xs - (place + 1)) (drop (place +
      1) xs)) ≡ leading (λ other. begins (seen page).path other.path) (drop (place + 1) pages)
  slice_count place page text xs is same = rw (
    take_rest xs (place + 1),
    is,
    same,
  ) (below_found (steps_of page.row.path) (place + 1))

-- a count of the front of a slice stays within the list
pub slice_within : {X : Type 0} (test : X → Bool) (xs : List X) (place : ℕ) → place < length xs →
    place + 1 + leading test (take (length xs - (place + 1)) (drop (place + 1) xs)) ≤ length xs
slice_within test xs place within =
    let few = leading-le-length test (take (length xs - (place + 1)) (drop (place + 1) xs)) in
    let same : length (take (length xs - (place + 1)) (drop (place + 1) xs)) ≡ length xs - (place +
    1) = ap length (take_rest xs (place + 1)) ∙ length-drop (place + 1) xs in
    omega arith

-- where there is an element, the place is within the list
pub within_from_get : {X : Type 0} (xs : List X) (n : ℕ) (x : X) → slice_get xs n ≡ Some x → n < length xs
within_from_get [] n x h = cc
within_from_get (y ∷ xs) zero x h = omega arith
within_from_get (y ∷ xs) (suc n) x h = let more = within_from_get xs n x h in omega arith

-- the range of a page that is found
pub range_is : (pages : List Page) (id place end : ℕ) (row : Page) → EachPair IsBefore pages →
    row_with id pages ≡ Some row →
    place ≡ leading (λ other. comes_before other.path row.path) pages → ((row : Page) →
    slice_get pages place ≡ Some row →
    end ≡ place + 1 + leading (λ other. begins row.path other.path) (drop (place + 1) pages)) →
    end ≤ length pages → IfSome (row_with id pages) (λ row. IsRange pages row place (end - place))
range_is pages id place end row order found is ends within =
    let at : slice_get pages place ≡ Some row =
    rw is (own_place (λ (r : Page). nat_eq r.id id) pages row order found) in
    let n = leading (λ other. begins row.path other.path) (drop (place + 1) pages) in
    let last : end ≡ place + 1 + n = ends row at in
    let size : end - place ≡ suc n = omega arith in
    let count : n ≡ leading (λ other. begins row.path other.path) (drop (suc place) pages) =
    rw add-one refl in
    rw (found, size) (range_at pages row place n order at count (omega arith))
