-- Rows at places of a list in path order, and paths that begin alike.
use Rattle.std.proofs.Common.{◌≡◌, ℕ, suc, ◌+◌, ◌-◌, ◌<◌, ◌≤◌, Bool, true, false, cond, nat_eq, nat_lt, ◌&&◌, List, [], ◌∷◌, ◌++◌, Some, find, length, take, drop, slice_get, refl, ap, sym, ◌∙◌, subst, arith}
use Prim.Native.Nat.{zero}
use Rattle.std.proofs.lemmas.Bool.Decides.{nat_tests}
use Rattle.std.specs.List.{AllByRecursion}
use Rattle.page_tree.specs.Rows.{comes_before}
use Rattle.page_store.specs.PageRows.{above}
use Rattle.page_store.specs.Pages.{Page, EachPair, IsBefore}
use Rattle.page_store.specs.Search.{begins}
use Rattle.page_store.proofs.PathOrder.{comes_before-self, comes_before-not_back}
use Rattle.page_store.proofs.RangeLemmas.{All-at}

-- what holds of each element of a window holds of one at a place in it
pub All-window : {X : Type 0} (P : X → Type 0) (xs : List X) (p m j : ℕ) (x : X) →
    AllByRecursion P (take m (drop p xs)) → slice_get xs j ≡ Some x → p ≤ j → j < p + m → P x
All-window P [] p m j x all h low high = cc
All-window P (y ∷ ys) zero zero j x all h low high = absurd (omega arith)
All-window P (y ∷ ys) zero (suc m) zero x all h low high = let one : y ≡ x = cc in subst P one all.0
All-window P (y ∷ ys) zero (suc m) (suc j) x all h low high =
    All-window P ys zero m j x all.1 h (omega arith) (omega arith)
All-window P (y ∷ ys) (suc p) m zero x all h low high = absurd (omega arith)
All-window P (y ∷ ys) (suc p) m (suc j) x all h low high =
    All-window P ys p m j x all h (omega arith) (omega arith)

-- and of those from a place on
pub All-behind : {X : Type 0} (P : X → Type 0) (xs : List X) (p j : ℕ) (x : X) →
    AllByRecursion P (drop p xs) → slice_get xs j ≡ Some x → p ≤ j → P x
All-behind P [] p j x all h low = cc
All-behind P (y ∷ ys) zero j x all h low = All-at P j (y ∷ ys) x all h
All-behind P (y ∷ ys) (suc p) zero x all h low = absurd (omega arith)
All-behind P (y ∷ ys) (suc p) (suc j) x all h low = All-behind P ys p j x all h (omega arith)

-- what holds of each element holds of the first ones
pub All-take : {X : Type 0} (P : X → Type 0) (n : ℕ) (xs : List X) → AllByRecursion P xs →
    AllByRecursion P (take n xs)
All-take P zero xs all = tt
All-take P (suc n) [] all = tt
All-take P (suc n) (x ∷ xs) all = (all.0, All-take P n xs all.1)

-- within the length there is an element
pub there_is : {X : Type 0} (xs : List X) (n : ℕ) → n < length xs → (x : X) × (slice_get xs n ≡ Some x)
there_is [] n h = absurd (omega arith)
there_is (x ∷ xs) zero h = (x, refl)
there_is (x ∷ xs) (suc n) h = there_is xs n (omega arith)

-- what is found stands at a place
pub found_at : {X : Type 0} (test : X → Bool) (xs : List X) (x : X) → find test xs ≡ Some x →
    (j : ℕ) × (slice_get xs j ≡ Some x)
found_at test [] x h = absurd cc
found_at test (y ∷ xs) x h = by (test y) h (found_at test xs x)
  where
    by : (t : Bool) → cond t (Some y) (find test xs) ≡ Some x → (find test xs ≡ Some x →
        (j : ℕ) × (slice_get xs j ≡ Some x)) → (j : ℕ) × (slice_get (y ∷ xs) j ≡ Some x)
    by true h more = (0, h)
    by false h more = let found = more h in (suc found.0, found.1)

-- of two places the row at the first comes before the row at the second
pub before_at : (rows : List Page) (i j : ℕ) (a b : Page) → EachPair IsBefore rows →
    slice_get rows i ≡ Some a → slice_get rows j ≡ Some b → i < j →
    comes_before a.path b.path ≡ true
before_at [] i j a b order at there h = cc
before_at (row ∷ rows) i zero a b order at there h = absurd (omega arith)
before_at (row ∷ rows) zero (suc j) a b order at there h =
    let one : row ≡ a = cc in
    subst (λ (r : Page). comes_before r.path b.path ≡ true) one (All-at (IsBefore row) j rows b
    order.0 there)
before_at (row ∷ rows) (suc i) (suc j) a b order at there h =
    before_at rows i j a b order.1 at there (omega arith)

-- and a row that comes before another stands before it
pub place_before : (rows : List Page) (i j : ℕ) (a b : Page) → EachPair IsBefore rows →
    slice_get rows i ≡ Some a → slice_get rows j ≡ Some b → comes_before a.path b.path ≡ true →
    i < j
place_before rows i j a b order at there before = by (nat_lt i j) (nat_lt j i) refl refl
  where
    by : (t u : Bool) → nat_lt i j ≡ t → nat_lt j i ≡ u → i < j
    by true u e f = grind (arith, nat_tests)
    by false true e f =
        let back = before_at rows j i b a order there at (grind (arith, nat_tests)) in
        let not = comes_before-not_back b.path a.path back in absurd cc
    by false false e f =
        let same : i ≡ j = grind (arith, nat_tests) in
        let one : Some a ≡ Some b = sym at ∙ ap (λ k. slice_get rows k) same ∙ there in
        let rows_same : a ≡ b = cc in
        let never = comes_before-self b.path in
        let self : comes_before b.path b.path ≡ true =
        subst (λ (r : Page). comes_before r.path b.path ≡ true) rows_same before in
        absurd cc

-- paths behind one beginning compare as what follows it
pub comes_before-behind : (front a b : List ℕ) → comes_before (front ++ a) (front ++ b) ≡ comes_before a b
comes_before-behind [] a b = refl
comes_before-behind (x ∷ front) a b =
    let same : nat_eq x x ≡ true = grind (arith, nat_tests) in
    rw same (comes_before-behind front a b)

-- and begin as what follows it
pub begins-behind : (front a b : List ℕ) → begins (front ++ a) (front ++ b) ≡ begins a b
begins-behind [] a b = refl
begins-behind (x ∷ front) a b =
    let same : nat_eq x x ≡ true = grind (arith, nat_tests) in
    rw (same, begins-behind front a b) refl

-- the path above a longer one
pub above-cons : (x y : ℕ) (path : List ℕ) → above (x ∷ y ∷ path) ≡ x ∷ above (y ∷ path)
above-cons x y path =
    let long : length (x ∷ y ∷ path) - 1 ≡ suc (length path) = omega arith in
    let short : length (y ∷ path) - 1 ≡ length path = omega arith in
    rw (long, short) refl

-- the path above one that goes on behind a beginning
pub above-append : (front : List ℕ) (x : ℕ) (path : List ℕ) →
    above (front ++ x ∷ path) ≡ front ++ above (x ∷ path)
above-append [] x path = refl
above-append (y ∷ []) x path = above-cons y x path
above-append (y ∷ z ∷ front) x path = above-cons y z (front ++
    x ∷ path) ∙ ap (λ rest. y ∷ rest) (above-append (z ∷ front) x path)

-- the path above one of one step is empty
pub above-one : (x : ℕ) → above (x ∷ []) ≡ []
above-one x = refl

-- a path is the one above it with one step more
pub last_step_of : (path : List ℕ) → 0 < length path → (s : ℕ) × (path ≡ above path ++ s ∷ [])
last_step_of [] some = absurd (omega arith)
last_step_of (x ∷ []) some = (x, refl)
last_step_of (x ∷ y ∷ path) some =
    let more = last_step_of (y ∷ path) (omega arith) in
    (more.0, ap (λ rest. x ∷ rest) more.1 ∙ sym (ap (λ front. front ++ more.0 ∷ []) (above-cons x y path)))

-- a path comes after the one above it
pub above_before : (path : List ℕ) → 0 < length path → comes_before (above path) path ≡ true
above_before [] some = absurd (omega arith)
above_before (x ∷ []) some = refl
above_before (x ∷ y ∷ path) some =
    let same : nat_eq x x ≡ true = grind (arith, nat_tests) in
    rw (above-cons x y path) (rw same (above_before (y ∷ path) (omega arith)))

-- one step of a path before another, neither below the other
apart_step : (s a : ℕ) (p : Bool) → cond (nat_eq s a) p (nat_lt s a) ≡ true →
    nat_eq s a && true ≡ false → (nat_lt s a ≡ true) × (nat_eq s a ≡ false)
apart_step s a p before apart = (grind (arith, nat_tests), grind (arith, nat_tests))

-- A path that comes before one further down, and is not above it, comes before the path above that one too.
pub before_above : (front : List ℕ) (s a b : ℕ) (more : List ℕ) →
    comes_before (front ++ s ∷ []) (front ++ a ∷ b ∷ more) ≡ true →
    begins (front ++ s ∷ []) (front ++ a ∷ b ∷ more) ≡ false
    → (comes_before (front ++ s ∷ []) (above (front ++ a ∷ b ∷ more)) ≡ true)
    × (begins (front ++ s ∷ []) (above (front ++ a ∷ b ∷ more)) ≡ false)
before_above front s a b more before apart =
    let steps = apart_step s a _ (sym (comes_before-behind front (s ∷ []) (a ∷ b ∷ more)) ∙ before)
    (sym (begins-behind front (s ∷ []) (a ∷ b ∷ more)) ∙ apart) in
    rw (
      above-append front a (b ∷ more),
      above-cons a b more,
      comes_before-behind front (s ∷ []) (a ∷ above (b ∷ more)),
      begins-behind front (s ∷ []) (a ∷ above (b ∷ more)),
    )
    (rw (steps.1, steps.0) (refl, refl))

-- a path that begins with another of its length is that one
pub begins_same_length : (a b : List ℕ) → begins a b ≡ true → length a ≡ length b → a ≡ b
begins_same_length [] [] h same = refl
begins_same_length [] (y ∷ b) h same = absurd (omega arith)
begins_same_length (x ∷ a) [] h same = absurd (omega arith)
begins_same_length (x ∷ a) (y ∷ b) h same =
    let one : x ≡ y = grind (arith, nat_tests) in
    let more : begins a b ≡ true = grind (arith, nat_tests) in
    let rest = begins_same_length a b more (omega arith) in cc
