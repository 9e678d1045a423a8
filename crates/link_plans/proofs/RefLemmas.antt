-- The pages that link to a page, rising: by the pairs that are kept, and by the rows.
use Rattle.std.proofs.Common.{◌≡◌, ℕ, zero, suc, ◌<◌, Bool, true, false, cond, nat_eq, nat_lt, ◌&&◌, ◌||◌, List, [], ◌∷◌, Option, Some, None, refl, sym, ap, ◌∙◌, add-one, arith}
use Rattle.std.proofs.lemmas.Bool.Decides.{nat_tests}
use Rattle.std.specs.List.{AllByRecursion, list_any}
use Rattle.std.specs.List.Sorted.{IsStrictlyIncreasing}
use Rattle.page_tree.specs.Rows.{comes_before, row_with}
use Rattle.page_store.specs.Pages.{Page, EachPair, HasOtherId}
use Rattle.site_model.specs.Links.{rising_ids}
use Rattle.site_model.specs.Users.{put_in}

-- numbers rise: each is below all that stand after it
abbrev pub NumbersRise : List ℕ → Type 0
NumbersRise [] = Unit {0}
NumbersRise (n ∷ ns) = AllByRecursion (λ later. n < later) ns × NumbersRise ns

-- a number below one that is below all is below all
below_all : (m n : ℕ) (ns : List ℕ) → m < n → AllByRecursion (λ later. n < later) ns →
    AllByRecursion (λ later. m < later) ns
below_all m n [] lt all = tt
below_all m n (k ∷ ns) lt all =
    let next = all.0 in
    (omega (arith, lt, next), below_all m n ns lt all.1)

-- numbers that rise step by step rise
pub steps_rise : (ns : List ℕ) → IsStrictlyIncreasing ns → NumbersRise ns
steps_rise [] steps = tt
steps_rise (n ∷ []) steps = (tt, tt)
steps_rise (n ∷ m ∷ ns) steps =
    let first : n < m = steps zero (omega arith) in
    let rest = steps_rise (m ∷ ns)
    (λ k lt. rw (add-one k) (rw (add-one (suc k)) at (steps (suc k) (omega arith)))) in
    ((first, below_all n m ns first rest.0), rest)

-- none of the numbers above one is that one
none_above : (n : ℕ) (ns : List ℕ) → AllByRecursion (λ later. n < later) ns →
    list_any (nat_eq n) ns ≡ false
none_above n [] all = refl
none_above n (m ∷ ns) all = rw (differs m all.0) (none_above n ns all.1)
  where
    differs : (m : ℕ) → n < m → nat_eq n m ≡ false
    differs m lt = grind (arith, nat_tests)

-- a number that is there is above one that is below all
found_above : (n m : ℕ) (ns : List ℕ) → AllByRecursion (λ later. n < later) ns →
    list_any (nat_eq m) ns ≡ true → n < m
found_above n m [] all there = cc
found_above n m (k ∷ ns) all there =
    by (nat_eq m k) refl there (found_above n m ns all.1)
  where
    same : (k : ℕ) → n < k → nat_eq m k ≡ true → n < m
    same k lt is = grind (arith, nat_tests)

    by : (t : Bool) → nat_eq m k ≡ t → (t || list_any (nat_eq m) ns) ≡ true →
        (list_any (nat_eq m) ns ≡ true → n < m) → n < m
    by true is there more = same k all.0 is
    by false is there more = more there

-- a number is itself
eq_self : (n : ℕ) → nat_eq n n ≡ true
eq_self n = grind (arith, nat_tests)

-- the first numbers of two lists that have the same numbers are one
same_first : (n m : ℕ) (ns ms : List ℕ) → NumbersRise (n ∷ ns) → NumbersRise (m ∷ ms) →
    ((k : ℕ) → list_any (nat_eq k) (n ∷ ns) ≡ list_any (nat_eq k) (m ∷ ms)) → n ≡ m
same_first n m ns ms rise rises same = by (nat_eq n m) refl
  where
    there : (nat_eq n m || list_any (nat_eq n) ms) ≡ true
    there = sym (same n) ∙ rw (eq_self n) refl

    back : (nat_eq m n || list_any (nat_eq m) ns) ≡ true
    back = same m ∙ rw (eq_self m) refl

    means : nat_eq n m ≡ true → n ≡ m
    means is = grind (arith, nat_tests)

    turned : nat_eq n m ≡ false → nat_eq m n ≡ false
    turned is = grind (arith, nat_tests)

    by : (t : Bool) → nat_eq n m ≡ t → n ≡ m
    by true is = means is
    by false is =
        let later : list_any (nat_eq n) ms ≡ true = rw is at there in
        let behind : list_any (nat_eq m) ns ≡ true = rw (turned is) at back in
        let one = found_above m n ms rises.0 later in
        let two = found_above n m ns rise.0 behind in
        absurd (omega (arith, one, two))

-- the numbers behind the first
behind_first : (n : ℕ) (ns : List ℕ) (k : ℕ) → NumbersRise (n ∷ ns) →
    list_any (nat_eq k) ns ≡ cond (nat_eq k n) false (list_any (nat_eq k) (n ∷ ns))
behind_first n ns k rise = by (nat_eq k n) refl
  where
    means : nat_eq k n ≡ true → k ≡ n
    means is = grind (arith, nat_tests)

    by : (t : Bool) → nat_eq k n ≡ t →
        list_any (nat_eq k) ns ≡ cond t false (t || list_any (nat_eq k) ns)
    by true is = rw (means is) (none_above n ns rise.0)
    by false is = refl

-- two lists of numbers that rise and have the same numbers are one list
pub numbers_one : (ns ms : List ℕ) → NumbersRise ns → NumbersRise ms →
    ((k : ℕ) → list_any (nat_eq k) ns ≡ list_any (nat_eq k) ms) → ns ≡ ms
numbers_one [] [] rise rises same = refl
numbers_one [] (m ∷ ms) rise rises same =
    let there : list_any (nat_eq m) (m ∷ ms) ≡ true = rw (eq_self m) refl in
    let is = same m in
    absurd (cc)
numbers_one (n ∷ ns) [] rise rises same =
    let there : list_any (nat_eq n) (n ∷ ns) ≡ true = rw (eq_self n) refl in
    let is = same n in
    absurd (cc)
numbers_one (n ∷ ns) (m ∷ ms) rise rises same =
    let first = same_first n m ns ms rise rises same in
    let rest = numbers_one ns ms rise.1 rises.1 (λ k.
    behind_first n ns k rise
    ∙ ap (λ (there : Bool). cond (nat_eq k n) false there) (same k)
    ∙ ap (λ (head : ℕ). cond (nat_eq k head) false (list_any (nat_eq k) (m ∷ ms))) first
    ∙ sym (behind_first m ms k rises)) in
    rw (first, rest) refl

-- the key of a number
abbrev number_key : ℕ → List ℕ
number_key id = id ∷ []

-- a number that is put in is there, and every other one is there as before
any_put : (k n : ℕ) (ns : List ℕ) →
    list_any (nat_eq k) (put_in number_key n ns) ≡ (nat_eq k n || list_any (nat_eq k) ns)
any_put k n [] = refl
any_put k n (m ∷ ns) = by (comes_before (number_key n) (number_key m)) (any_put k n ns)
  where
    swapped : (t u v : Bool) → (t || (u || v)) ≡ (u || (t || v))
    swapped true true v = refl
    swapped true false v = refl
    swapped false true v = refl
    swapped false false v = refl

    by : (t : Bool) →
        list_any (nat_eq k) (put_in number_key n ns) ≡ (nat_eq k n || list_any (nat_eq k) ns) →
        list_any (nat_eq k) (cond t (n ∷ m ∷ ns) (m ∷ put_in number_key n ns))
        ≡ (nat_eq k n || (nat_eq k m || list_any (nat_eq k) ns))
    by true more = refl
    by false more = rw more (swapped (nat_eq k m) (nat_eq k n) (list_any (nat_eq k) ns))

-- what is below all and below one more is below all with it
all_put : (m n : ℕ) (ns : List ℕ) → m < n → AllByRecursion (λ later. m < later) ns →
    AllByRecursion (λ later. m < later) (put_in number_key n ns)
all_put m n [] lt all = (lt, tt)
all_put m n (k ∷ ns) lt all =
    by (comes_before (number_key n) (number_key k)) (all_put m n ns lt all.1)
  where
    by : (t : Bool) → AllByRecursion (λ later. m < later) (put_in number_key n ns) →
        AllByRecursion (λ later. m < later) (cond t (n ∷ k ∷ ns) (k ∷ put_in number_key n ns))
    by true more = (lt, all)
    by false more = (all.0, more)

-- numbers with one more that is not among them still rise
rise_put : (n : ℕ) (ns : List ℕ) → NumbersRise ns → list_any (nat_eq n) ns ≡ false →
    NumbersRise (put_in number_key n ns)
rise_put n [] rise new = (tt, tt)
rise_put n (m ∷ ns) rise new =
    by (comes_before (number_key n) (number_key m)) refl
    (rise_put n ns rise.1 (behind (nat_eq n m) new))
  where
    behind : (t : Bool) → (t || list_any (nat_eq n) ns) ≡ false → list_any (nat_eq n) ns ≡ false
    behind true h = cc
    behind false h = h

    front : (t v : Bool) → (t || v) ≡ false → t ≡ false
    front true v h = cc
    front false v h = refl

    low : cond (nat_eq n m) false (nat_lt n m) ≡ true → n < m
    low h = grind (arith, nat_tests)

    high : nat_eq n m ≡ false → cond (nat_eq n m) false (nat_lt n m) ≡ false → m < n
    high differs h = grind (arith, nat_tests)

    by : (t : Bool) → comes_before (number_key n) (number_key m) ≡ t →
        NumbersRise (put_in number_key n ns) →
        NumbersRise (cond t (n ∷ m ∷ ns) (m ∷ put_in number_key n ns))
    by true h more = ((low h, below_all n m ns (low h) rise.0), rise)
    by false h more =
        let above = high (front (nat_eq n m) (list_any (nat_eq n) ns) new) h in
        (all_put m n ns above rise.0, more)

module _ (test : Page → Bool) where
  -- whether a page is there and passes the test
  abbrev pub passes : Option Page → Bool
  passes None = false
  passes (Some row) = test row

  -- the ids that are listed are those of rows that pass
  any_rising : (k : ℕ) (rows : List Page) →
      list_any (nat_eq k) (rising_ids test rows)
      ≡ list_any (λ (row : Page). nat_eq row.id k && test row) rows
  any_rising k [] = refl
  any_rising k (row ∷ rows) = by (test row) (any_rising k rows)
    where
      turned : nat_eq k row.id ≡ (nat_eq row.id k && true)
      turned = grind (arith, nat_tests)

      never : (t v : Bool) → v ≡ ((t && false) || v)
      never true v = refl
      never false v = refl

      by : (t : Bool) →
          list_any (nat_eq k) (rising_ids test rows)
          ≡ list_any (λ (one : Page). nat_eq one.id k && test one) rows →
          list_any (nat_eq k)
          (cond t (put_in number_key row.id (rising_ids test rows)) (rising_ids test rows))
          ≡ ((nat_eq row.id k && t) || list_any (λ (one : Page). nat_eq one.id k && test one) rows)
      by true more = any_put k row.id (rising_ids test rows) ∙ rw (turned, more) refl
      by false more =
          more
          ∙ never (nat_eq row.id k) (list_any (λ (one : Page). nat_eq one.id k && test one) rows)

  -- no row behind one has its id
  none_behind : (row : Page) (rows : List Page) → AllByRecursion (HasOtherId row) rows →
      (k : ℕ) → nat_eq row.id k ≡ true →
      list_any (λ (one : Page). nat_eq one.id k && test one) rows ≡ false
  none_behind row [] all k is = refl
  none_behind row (next ∷ rows) all k is =
      rw (differs next all.0) (none_behind row rows all.1 k is)
    where
      joined : (m n : ℕ) → nat_eq m k ≡ true → nat_eq n k ≡ true → n ≡ m
      joined m n h h' = grind (arith, nat_tests)

      differs : (next : Page) → HasOtherId row next → nat_eq next.id k ≡ false
      differs next other = choice (nat_eq next.id k) refl
        where
          choice : (t : Bool) → nat_eq next.id k ≡ t → nat_eq next.id k ≡ false
          choice true e = absurd (other (joined row.id next.id is e))
          choice false e = e

  -- the ids that are listed are those of pages that pass
  pub any_page : (rows : List Page) → EachPair HasOtherId rows → (k : ℕ) →
      list_any (nat_eq k) (rising_ids test rows) ≡ passes (row_with k rows)
  any_page rows own k = any_rising k rows ∙ found rows own
    where
      found : (rows : List Page) → EachPair HasOtherId rows →
          list_any (λ (row : Page). nat_eq row.id k && test row) rows ≡ passes (row_with k rows)
      found [] own = refl
      found (row ∷ rows) own = by (nat_eq row.id k) refl (found rows own.1)
        where
          alone : (t v : Bool) → v ≡ false → (t || v) ≡ t
          alone true v h = refl
          alone false v h = h

          by : (t : Bool) → nat_eq row.id k ≡ t →
              list_any (λ (one : Page). nat_eq one.id k && test one) rows
              ≡ passes (row_with k rows) →
              ((t && test row) || list_any (λ (one : Page). nat_eq one.id k && test one) rows)
              ≡ passes (cond t (Some row) (row_with k rows))
          by true is more = alone (test row) _ (none_behind row rows own.0 k is)
          by false is more = more

  -- the ids that are listed rise
  pub rising_rises : (rows : List Page) → EachPair HasOtherId rows → NumbersRise (rising_ids test rows)
  rising_rises [] own = tt
  rising_rises (row ∷ rows) own = by (test row) (rising_rises rows own.1)
    where
      self : nat_eq row.id row.id ≡ true
      self = grind (arith, nat_tests)

      by : (t : Bool) → NumbersRise (rising_ids test rows) →
          NumbersRise (cond t (put_in number_key row.id (rising_ids test rows)) (rising_ids test rows))
      by true more =
          rise_put row.id (rising_ids test rows) more
          (any_rising row.id rows ∙ none_behind row rows own.0 row.id self)
      by false more = more
