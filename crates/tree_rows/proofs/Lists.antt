-- Lists taken apart: what holds of each element, of each pair, and of those in a window.
use Rattle.std.proofs.Common.{◌≡◌, ℕ, suc, ◌+◌, ◌-◌, ◌<◌, ◌≤◌, Bool, true, false, List, [], ◌∷◌, ◌++◌, Some, filter, length, take, drop, slice_get, refl, ap, sym, ◌∙◌, arith, length-append}
use Prim.Native.Nat.{zero}
use Rattle.std.specs.List.{AllByRecursion}
use Rattle.std.proofs.lemmas.List.{drop-drop, take-append-drop, append-nil, length-take-le, length-drop}
use Rattle.std.proofs.lemmas.List.Elements.{filter-append}
use Rattle.page_store.specs.Pages.{Page, EachPair}
use Rattle.page_store.proofs.AllLemmas.{All-weaker}
use Rattle.tree_rows.specs.Subtree.{last_of}
pub use Rattle.page_tree.proofs.ListLemmas.{all_parts}

-- what holds between each of these and each of those holds between each of those and each of these
pub All-turned : {X Y : Type 0} (R : X → Y → Type 0) (xs : List X) (ys : List Y) →
    AllByRecursion (λ x. AllByRecursion (R x) ys) xs →
    AllByRecursion (λ y. AllByRecursion (λ x. R x y) xs) ys
All-turned R xs [] all = tt
All-turned R xs (y ∷ ys) all = (
  All-weaker (λ x. AllByRecursion (R x) (y ∷ ys)) (λ x. R x y) (λ x both. both.0) xs all,
  All-turned R xs ys (All-weaker (λ x. AllByRecursion (R x) (y ∷ ys))
      (λ x. AllByRecursion (R x) ys)
      (λ x both. both.1) xs all),
)

-- pairs of two lists: those of either, and those across
pub EachPair-parts : (R : Page → Page → Type 0) (xs ys : List Page) → EachPair R (xs ++ ys) →
    EachPair R xs × EachPair R ys × AllByRecursion (λ x. AllByRecursion (R x) ys) xs
EachPair-parts R [] ys pairs = (tt, pairs, tt)
EachPair-parts R (x ∷ xs) ys pairs =
    let heads = all_parts (R x) xs ys pairs.0 in
    let more = EachPair-parts R xs ys pairs.1 in
    ((heads.0, more.0), more.1, (heads.1, more.2))

-- where all pass, a filter keeps all
pub filter_all : {X : Type 0} (test : X → Bool) (xs : List X) →
    AllByRecursion (λ x. test x ≡ true) xs →
    filter test xs ≡ xs
filter_all test [] all = refl
filter_all test (x ∷ xs) all = rw (all.0, filter_all test xs all.1) refl

-- where none passes, it keeps none
pub filter_none : {X : Type 0} (test : X → Bool) (xs : List X) →
    AllByRecursion (λ x. test x ≡ false) xs →
    filter test xs ≡ []
filter_none test [] all = refl
filter_none test (x ∷ xs) all = rw all.0 (filter_none test xs all.1)

-- where those of the middle pass and no others, it keeps the middle
pub filter_middle : {X : Type 0} (test : X → Bool) (front middle behind : List X) →
    AllByRecursion (λ x. test x ≡ false) front → AllByRecursion (λ x. test x ≡ true) middle →
    AllByRecursion (λ x. test x ≡ false) behind → filter test (front ++ (middle ++ behind)) ≡ middle
filter_middle test front middle behind none all rest =
    rw (
      filter-append test front (middle ++ behind),
      filter-append test middle behind,
      filter_none test front none,
      filter_all test middle all,
      filter_none test behind rest,
    ) (append-nil middle)

-- where those in a window pass and no others, it keeps the window
pub filter_window : {X : Type 0} (test : X → Bool) (xs : List X) (place n : ℕ) →
    AllByRecursion (λ x. test x ≡ false) (take place xs) →
    AllByRecursion (λ x. test x ≡ true) (take n (drop place xs)) →
    AllByRecursion (λ x. test x ≡ false) (drop (place + n) xs) →
    filter test xs ≡ take n (drop place xs)
filter_window test xs place n none all rest =
    let parts = sym (take-append-drop place xs) ∙ ap (λ ys. take place xs ++ ys)
    (sym (take-append-drop n (drop place xs))
    ∙ ap (λ ys. take n (drop place xs) ++ ys) (drop-drop n place xs)) in
    ap (filter test) parts ∙ filter_middle test _ _ _ none all rest

-- the element at a place behind others
pub slice_get-drop : {X : Type 0} (xs : List X) (place j k : ℕ) → k ≡ place + j →
    slice_get (drop place xs) j ≡ slice_get xs k
slice_get-drop [] zero j k is = refl
slice_get-drop [] (suc place) j k is = refl
slice_get-drop (x ∷ xs) zero j k is =
    let same : j ≡ k = omega arith in ap (slice_get (x ∷ xs)) same
slice_get-drop (x ∷ xs) (suc place) j zero is = absurd (omega arith)
slice_get-drop (x ∷ xs) (suc place) j (suc k) is = slice_get-drop xs place j k (omega arith)

-- the element at a place among the first ones
pub slice_get-take : {X : Type 0} (xs : List X) (n j : ℕ) → j < n → slice_get (take n xs) j
    ≡ slice_get xs j
slice_get-take xs zero j within = absurd (omega arith)
slice_get-take [] (suc n) j within = refl
slice_get-take (x ∷ xs) (suc n) zero within = refl
slice_get-take (x ∷ xs) (suc n) (suc j) within = slice_get-take xs n j (omega arith)

-- the element at a place of a window
pub slice_get-window : {X : Type 0} (xs : List X) (place n j : ℕ) → j < n →
    slice_get (take n (drop place xs)) j ≡ slice_get xs (place + j)
slice_get-window xs place n j within =
    slice_get-take (drop place xs) n j within ∙ slice_get-drop xs place j (place + j) refl

-- a window within the list has its length
pub length-window : {X : Type 0} (xs : List X) (place n : ℕ) → place + n ≤ length xs →
    length (take n (drop place xs)) ≡ n
length-window xs place n within =
    let rest = length-drop place xs in length-take-le n (drop place xs) (omega arith)

-- the element behind others
pub slice_get-append : {X : Type 0} (front behind : List X) (x : X) →
    slice_get (front ++ x ∷ behind) (length front) ≡ Some x
slice_get-append [] behind x = refl
slice_get-append (y ∷ front) behind x = slice_get-append front behind x

-- the last of a list
pub last_of-push : {X : Type 0} (front : List X) (x : X) → last_of (front ++ x ∷ []) ≡ Some x
last_of-push front x =
    let long = length-append front (x ∷ []) in
    let last : length (front ++ x ∷ []) - 1 ≡ length front = omega arith in
    ap (slice_get (front ++ x ∷ [])) last ∙ slice_get-append front [] x

-- one element more at the front
pub take_one_more : {X : Type 0} (xs : List X) (n : ℕ) (x : X) → slice_get xs n ≡ Some x →
    take (suc n) xs ≡ take n xs ++ x ∷ []
take_one_more [] n x is = absurd cc
take_one_more (y ∷ xs) zero x is =
    let same : y ≡ x = cc in ap (λ z. z ∷ []) same
take_one_more (y ∷ xs) (suc n) x is = ap (λ ys. y ∷ ys) (take_one_more xs n x is)
