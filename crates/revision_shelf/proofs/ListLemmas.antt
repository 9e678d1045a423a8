-- Lists of which a test keeps some elements.
use Rattle.std.proofs.Common.{◌≡◌, suc, ◌≤◌, ◌<◌, Bool, true, false, cond, ◌&&◌, List, [], ◌∷◌, ◌++◌, Some, None, map, find, filter, length, refl, ap, arith}
use Rattle.std.specs.List.{AllByRecursion}

-- what holds of each element makes more hold of each
pub All-weaker : {X : Type 0} (P Q : X → Type 0) → ((x : X) → P x → Q x) → (xs : List X) →
    AllByRecursion P xs → AllByRecursion Q xs
All-weaker P Q step [] all = tt
All-weaker P Q step (x ∷ xs) all = (step x all.0, All-weaker P Q step xs all.1)

-- a test that all pass keeps all
pub filter-all : {X : Type 0} (test : X → Bool) (xs : List X) →
    AllByRecursion (λ x. test x ≡ true) xs → filter test xs ≡ xs
filter-all test [] all = refl
filter-all test (x ∷ xs) all = rw (all.0) (ap (λ ys. x ∷ ys) (filter-all test xs all.1))

-- two tests, one behind the other
pub filter-filter : {X : Type 0} (t u : X → Bool) (xs : List X) →
    filter t (filter u xs) ≡ filter (λ x. u x && t x) xs
filter-filter t u [] = refl
filter-filter t u (x ∷ xs) = by (u x) (t x) refl refl (filter-filter t u xs)
  where
    by : (b c : Bool) → u x ≡ b → t x ≡ c → filter t (filter u xs) ≡ filter (λ x. u x && t x) xs →
        filter t (cond b (x ∷ filter u xs) (filter u xs)) ≡ cond (b && t x) (x ∷ filter (λ x. u x &&
        t x) xs) (filter (λ x. u x && t x) xs)
    by true true e f more = rw (f) (ap (λ ys. x ∷ ys) more)
    by true false e f more = rw (f) more
    by false c e f more = more

-- an element that fails at the end
pub filter-fails_last : {X : Type 0} (test : X → Bool) (xs : List X) (x : X) → test x ≡ false →
    filter test (xs ++ x ∷ []) ≡ filter test xs
filter-fails_last test [] x h = rw h refl
filter-fails_last test (y ∷ xs) x h = by (test y) (filter-fails_last test xs x h)
  where
    by : (b : Bool) → filter test (xs ++ x ∷ []) ≡ filter test xs →
        cond b (y ∷ filter test (xs ++ x ∷ [])) (filter test (xs ++ x ∷ [])) ≡ cond b (y ∷ filter
        test xs) (filter test xs)
    by true more = ap (λ ys. y ∷ ys) more
    by false more = more

-- a test of what a function gives
pub map-filter : {X Y : Type 0} (test : Y → Bool) (f : X → Y) (xs : List X) →
    map f (filter (λ x. test (f x)) xs) ≡ filter test (map f xs)
map-filter test f [] = refl
map-filter test f (x ∷ xs) = by (test (f x)) (map-filter test f xs)
  where
    by : (b : Bool) → map f (filter (λ x. test (f x)) xs) ≡ filter test (map f xs) →
        map f (cond b (x ∷ filter (λ x. test (f x)) xs) (filter (λ x. test (f x)) xs)) ≡ cond b (f x
        ∷ filter test (map f xs)) (filter test (map f xs))
    by true more = ap (λ ys. f x ∷ ys) more
    by false more = more

-- a function of an element more at the end
pub map-last : {X Y : Type 0} (f : X → Y) (xs : List X) (x : X) → map f (xs ++ x ∷ []) ≡ map f xs ++ f x ∷ []
map-last f [] x = refl
map-last f (y ∷ xs) x = ap (λ ys. f y ∷ ys) (map-last f xs x)

-- what holds of each element holds of the one that is found, and that one passes the test
pub All-found : {X : Type 0} (P : X → Type 0) (test : X → Bool) (xs : List X) (x : X) →
    AllByRecursion P xs → find test xs ≡ Some x → P x × (test x ≡ true)
All-found P test [] x all h = cc
All-found P test (y ∷ xs) x all h = by (test y) refl h (All-found P test xs x all.1)
  where
    by : (t : Bool) → test y ≡ t → cond t (Some y) (find test xs) ≡ Some x →
        (find test xs ≡ Some x → P x × (test x ≡ true)) → P x × (test x ≡ true)
    by true e h more = let one : y ≡ x = cc in rw (← one) (all.0, e)
    by false e h more = more h

-- where each fails the test, none is found
pub find-none : {X : Type 0} (test : X → Bool) (xs : List X) →
    AllByRecursion (λ x. test x ≡ false) xs → find test xs ≡ None
find-none test [] all = refl
find-none test (x ∷ xs) all = rw (all.0) (find-none test xs all.1)

-- one more at the end is found where none is before it
pub find-last : {X : Type 0} (test : X → Bool) (xs : List X) (x : X) → find test xs ≡ None →
    find test (xs ++ x ∷ []) ≡ cond (test x) (Some x) None
find-last test [] x h = refl
find-last test (y ∷ xs) x h = by (test y) refl h (find-last test xs x)
  where
    by : (t : Bool) → test y ≡ t → cond t (Some y) (find test xs) ≡ None →
        (find test xs ≡ None → find test (xs ++ x ∷ []) ≡ cond (test x) (Some x) None) →
        cond t (Some y) (find test (xs ++ x ∷ [])) ≡ cond (test x) (Some x) None
    by true e h more = absurd cc
    by false e h more = more h

-- one more that fails at the end changes nothing
pub find-fails_last : {X : Type 0} (test : X → Bool) (xs : List X) (x : X) → test x ≡ false →
    find test (xs ++ x ∷ []) ≡ find test xs
find-fails_last test [] x h = rw h refl
find-fails_last test (y ∷ xs) x h = by (test y) (find-fails_last test xs x h)
  where
    by : (t : Bool) → find test (xs ++ x ∷ []) ≡ find test xs →
        cond t (Some y) (find test (xs ++ x ∷ [])) ≡ cond t (Some y) (find test xs)
    by true more = refl
    by false more = more

-- what holds of each holds of those that pass a test
pub All-filter : {X : Type 0} (P : X → Type 0) (test : X → Bool) (xs : List X) → AllByRecursion P xs →
    AllByRecursion P (filter test xs)
All-filter P test [] all = tt
All-filter P test (x ∷ xs) all = by (test x) (All-filter P test xs all.1)
  where
    by : (t : Bool) → AllByRecursion P (filter test xs) →
        AllByRecursion P (cond t (x ∷ filter test xs) (filter test xs))
    by true more = (all.0, more)
    by false more = more

-- what holds of those that pass a test holds of each that passes it
pub All-passing : {X : Type 0} (P : X → Type 0) (test : X → Bool) (xs : List X) →
    AllByRecursion P (filter test xs) → AllByRecursion (λ x. test x ≡ true → P x) xs
All-passing P test [] all = tt
All-passing P test (x ∷ xs) all = by (test x) refl all (All-passing P test xs)
  where
    by : (t : Bool) → test x ≡ t → AllByRecursion P (cond t (x ∷ filter test xs) (filter test xs)) →
        (AllByRecursion P (filter test xs) → AllByRecursion (λ x. test x ≡ true → P x) xs) →
        AllByRecursion (λ x. test x ≡ true → P x) (x ∷ xs)
    by true e all more = (λ h. all.0, more all.1)
    by false e all more = (λ h. absurd cc, more all)

-- two facts of each hold together
pub All-both : {X : Type 0} (P Q : X → Type 0) (xs : List X) → AllByRecursion P xs →
    AllByRecursion Q xs → AllByRecursion (λ x. P x × Q x) xs
All-both P Q [] all more = tt
All-both P Q (x ∷ xs) all more = ((all.0, more.0), All-both P Q xs all.1 more.1)

-- two tests in either order
pub filter-swap : {X : Type 0} (t u : X → Bool) (xs : List X) →
    filter t (filter u xs) ≡ filter u (filter t xs)
filter-swap t u [] = refl
filter-swap t u (x ∷ xs) = by (t x) (u x) refl refl (filter-swap t u xs)
  where
    by : (b c : Bool) → t x ≡ b → u x ≡ c → filter t (filter u xs) ≡ filter u (filter t xs) →
        filter t (cond c (x ∷ filter u xs) (filter u xs)) ≡ filter u (cond b (x ∷ filter t xs) (filter
        t xs))
    by true true e f more = rw (e, f) (ap (λ ys. x ∷ ys) more)
    by true false e f more = rw f more
    by false true e f more = rw e more
    by false false e f more = more

-- tests that agree on each element keep the same ones
pub filter-agree : {X : Type 0} (t u : X → Bool) (xs : List X) → AllByRecursion (λ x. t x ≡ u x) xs →
    filter t xs ≡ filter u xs
filter-agree t u [] all = refl
filter-agree t u (x ∷ xs) all = rw (all.0) (by (u x) (filter-agree t u xs all.1))
  where
    by : (b : Bool) → filter t xs ≡ filter u xs →
        cond b (x ∷ filter t xs) (filter t xs) ≡ cond b (x ∷ filter u xs) (filter u xs)
    by true more = ap (λ ys. x ∷ ys) more
    by false more = more

-- a test keeps at most all
pub length-filter : {X : Type 0} (test : X → Bool) (xs : List X) → length (filter test xs) ≤ length xs
length-filter test [] = omega arith
length-filter test (x ∷ xs) = by (test x) (length-filter test xs)
  where
    by : (t : Bool) → length (filter test xs) ≤ length xs →
        length (cond t (x ∷ filter test xs) (filter test xs)) ≤ suc (length xs)
    by true more = omega arith
    by false more = omega arith

-- a test that not all pass keeps fewer
pub length-fewer : {X : Type 0} (test : X → Bool) (xs : List X) →
    (AllByRecursion (λ x. test x ≡ true) xs → ⊥) → length (filter test xs) < length xs
length-fewer test [] fails = absurd (fails tt)
length-fewer test (x ∷ xs) fails = by (test x) refl (length-fewer test xs) (length-filter test xs)
  where
    by : (t : Bool) → test x ≡ t →
        ((AllByRecursion (λ x. test x ≡ true) xs → ⊥) → length (filter test xs) < length xs) →
        length (filter test xs) ≤ length xs →
        length (cond t (x ∷ filter test xs) (filter test xs)) < suc (length xs)
    by true e more most = let fewer = more (λ all. fails (e, all)) in omega arith
    by false e more most = omega arith
