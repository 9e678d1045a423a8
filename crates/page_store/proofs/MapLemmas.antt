-- Rows that a function gives: what holds of them, and what is found among them.
use Rattle.std.proofs.Common.{◌≡◌, ℕ, suc, Bool, true, false, cond, nat_eq, List, [], ◌∷◌, Some, map, find, filter, length, refl, ap, ◌∙◌, arith}
use Rattle.std.proofs.lemmas.Bool.Decides.{nat_tests}
use Rattle.std.specs.List.{AllByRecursion}
use Rattle.std.specs.Option.{option_map}
use Rattle.page_store.specs.Pages.{Page, EachPair}

-- what holds of each element that a function gives
pub All-unmap : {X Y : Type 0} (P : Y → Type 0) (f : X → Y) (xs : List X) →
    AllByRecursion P (map f xs) → AllByRecursion (λ x. P (f x)) xs
All-unmap P f [] all = tt
All-unmap P f (x ∷ xs) all = (all.0, All-unmap P f xs all.1)

-- the same of pairs of rows
pub EachPair-unmap : (R : Page → Page → Type 0) (f : Page → Page) (rows : List Page) →
    EachPair R (map f rows) → EachPair (λ row later. R (f row) (f later)) rows
EachPair-unmap R f [] pairs = tt
EachPair-unmap R f (row ∷ rows) pairs =
    (All-unmap (λ later. R (f row) later) f rows pairs.0, EachPair-unmap R f rows pairs.1)

-- what is found among the elements that a function gives
pub find-map : {X Y : Type 0} (test : Y → Bool) (f : X → Y) (xs : List X) →
    find test (map f xs) ≡ option_map f (find (λ x. test (f x)) xs)
find-map test f [] = refl
find-map test f (x ∷ xs) = by (test (f x)) (find-map test f xs)
  where
    by : (t : Bool) → find test (map f xs) ≡ option_map f (find (λ x. test (f x)) xs) →
        cond t (Some (f x)) (find test (map f xs)) ≡ option_map f (cond t (Some x) (find (λ x. test
        (f x)) xs))
    by true more = refl
    by false more = more

-- and how many pass
pub count-map : {X Y : Type 0} (test : Y → Bool) (f : X → Y) (xs : List X) →
    length (filter test (map f xs)) ≡ length (filter (λ x. test (f x)) xs)
count-map test f [] = refl
count-map test f (x ∷ xs) = by (test (f x)) (count-map test f xs)
  where
    by : (t : Bool) → length (filter test (map f xs)) ≡ length (filter (λ x. test (f x)) xs) →
        length (cond t (f x ∷ filter test (map f xs)) (filter test (map f xs))) ≡ length (cond t (x ∷
        filter (λ x. test (f x)) xs) (filter (λ x. test (f x)) xs))
    by true more = ap suc more
    by false more = more

-- two functions that agree on each element give one list
pub map-equal : {X Y : Type 0} (f g : X → Y) (xs : List X) → AllByRecursion (λ x. f x ≡ g x) xs →
    map f xs ≡ map g xs
map-equal f g [] all = refl
map-equal f g (x ∷ xs) all = ap (λ y. y ∷ map f xs) all.0 ∙ ap (λ ys. g x ∷ ys) (map-equal f g xs all.1)

-- a function that leaves each element leaves the list
pub map-same : {X : Type 0} (f : X → X) (xs : List X) → AllByRecursion (λ x. f x ≡ x) xs → map f xs ≡ xs
map-same f [] all = refl
map-same f (x ∷ xs) all = ap (λ y. y ∷ map f xs) all.0 ∙ ap (λ ys. x ∷ ys) (map-same f xs all.1)

-- whether two numbers are one, asked the other way round
pub nat_eq-flip : (a b : ℕ) → nat_eq a b ≡ nat_eq b a
nat_eq-flip a b = by (nat_eq a b) (nat_eq b a) refl refl
  where
    by : (t u : Bool) → nat_eq a b ≡ t → nat_eq b a ≡ u → t ≡ u
    by true true e f = refl
    by true false e f = absurd (grind (arith, nat_tests))
    by false true e f = absurd (grind (arith, nat_tests))
    by false false e f = refl
