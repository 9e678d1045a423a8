-- How many elements at the front of a list pass a test, where those that pass stand first.
use Rattle.std.proofs.Common.{◌≡◌, ◌<◌, ◌≤◌, ◌+◌, ℕ, suc, Bool, true, false, cond, List, [], ◌∷◌, map, take, drop, length, get_or, refl, sym, ◌∙◌, add-one, arith}
use Prim.Native.Nat.{zero}
use Rattle.std.specs.List.{AllByRecursion}
use Rattle.page_store.specs.Search.{leading, PassFirst}

module _ {X : Type 0} (test : X → Bool) where
  -- they are no more than all elements
  pub leading-le-length : (xs : List X) → leading test xs ≤ length xs
  leading-le-length [] = omega arith
  leading-le-length (x ∷ xs) = by (test x) (leading-le-length xs)
    where
      by : (t : Bool) → leading test xs ≤ length xs → cond t (leading test xs + 1) 0 ≤ length (x ∷ xs)
      by true h = omega arith
      by false h = omega arith

  -- an element that does not pass stands at their end or later
  pub leading-le_from_fail : (xs : List X) (i : ℕ) (d : X) → i < length xs →
      test (get_or xs i d) ≡ false → leading test xs ≤ i
  leading-le_from_fail [] i d within fails = absurd (omega arith)
  leading-le_from_fail (x ∷ xs) zero d within fails = rw fails (omega arith)
  leading-le_from_fail (x ∷ xs) (suc i) d within fails =
      by (test x) (leading-le_from_fail xs i d (omega arith) fails)
    where
      by : (t : Bool) → leading test xs ≤ i → cond t (leading test xs + 1) 0 ≤ suc i
      by true h = omega arith
      by false h = omega arith

  -- where all fail, the one at an index fails
  fails_at : (xs : List X) (i : ℕ) (d : X) → i < length xs →
      AllByRecursion (λ x. test x ≡ false) xs → test (get_or xs i d) ≡ false
  fails_at [] i d within all = absurd (omega arith)
  fails_at (x ∷ xs) zero d within all = all.0
  fails_at (x ∷ xs) (suc i) d within all = fails_at xs i d (omega arith) all.1

  -- an element that passes is one of them
  pub lt-leading_from_pass : (xs : List X) (i : ℕ) (d : X) → PassFirst test xs → i < length xs →
      test (get_or xs i d) ≡ true → i < leading test xs
  lt-leading_from_pass [] i d first within passes = absurd (omega arith)
  lt-leading_from_pass (x ∷ xs) zero d first within passes = rw passes (omega arith)
  lt-leading_from_pass (x ∷ xs) (suc i) d first within passes =
      by (test x) refl (lt-leading_from_pass xs i d first.1 (omega arith) passes)
    where
      by : (t : Bool) → test x ≡ t → i < leading test xs → suc i < cond (test x) (leading test xs + 1) 0
      by true e more = rw e (omega arith)
      by false e more = let fails = fails_at xs i d (omega arith) (first.0 e) in absurd cc

  -- all of them pass
  pub leading_pass : (xs : List X) → AllByRecursion (λ x. test x ≡ true) (take (leading test xs) xs)
  leading_pass [] = tt
  leading_pass (x ∷ xs) = by (test x) refl (leading_pass xs)
    where
      by : (t : Bool) → test x ≡ t →
          AllByRecursion (λ x. test x ≡ true) (take (leading test xs) xs) →
          AllByRecursion (λ x. test x ≡ true) (take (cond (test x) (leading test xs + 1) 0) (x ∷
          xs))
      by true e more = rw (e, add-one) (e, more)
      by false e more = rw e tt

  -- all others fail
  pub others_fail : (xs : List X) → PassFirst test xs →
      AllByRecursion (λ x. test x ≡ false) (drop (leading test xs) xs)
  others_fail [] first = tt
  others_fail (x ∷ xs) first = by (test x) refl (others_fail xs first.1)
    where
      by : (t : Bool) → test x ≡ t →
          AllByRecursion (λ x. test x ≡ false) (drop (leading test xs) xs) →
          AllByRecursion (λ x. test x ≡ false) (drop (cond (test x) (leading test xs + 1) 0) (x ∷
          xs))
      by true e more = rw (e, add-one) more
      by false e more = rw e (e, first.0 e)

module _ {X Y : Type 0} (f : X → Y) (test : Y → Bool) (own : X → Bool) where
  -- a test of what f gives, and a test that says the same
  pub leading-map : (xs : List X) → AllByRecursion (λ x. test (f x) ≡ own x) xs →
      leading test (map f xs) ≡ leading own xs
  leading-map [] same = refl
  leading-map (x ∷ xs) same = rw (same.0, leading-map xs same.1) refl

  -- those that pass stand first by both
  pub PassFirst-map : (xs : List X) → AllByRecursion (λ x. test (f x) ≡ own x) xs →
      PassFirst own xs → PassFirst test (map f xs)
  PassFirst-map [] same first = tt
  PassFirst-map (x ∷ xs) same first = (
    (λ e. fail xs same.1 (first.0 (sym same.0 ∙ e))),
    PassFirst-map xs same.1 first.1,
  )
    where
      fail : (xs : List X) → AllByRecursion (λ x. test (f x) ≡ own x) xs →
          AllByRecursion (λ x. own x ≡ false) xs → AllByRecursion (λ y. test y ≡ false) (map f xs)
      fail [] same all = tt
      fail (x ∷ xs) same all = (same.0 ∙ all.0, fail xs same.1 all.1)
