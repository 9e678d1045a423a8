-- An id taken out of ids that rise, at the place where a search finds it.
use Rattle.std.proofs.Common.{◌≡◌, ℕ, zero, suc, ◌<◌, ◌≤◌, Bool, true, false, not, nat_eq, nat_lt, List, [], ◌∷◌, Ok, Err, filter, length, get_or, remove, refl, ap, sym, arith}
use Rattle.std.proofs.lemmas.Bool.Decides.{nat_tests}
use Rattle.std.specs.List.Sorted.{IsBinarySearchResult}
use Rattle.std.specs.Ordering.{nat_cmp}
use Rattle.std.proofs.lemmas.List.Sorted.{searched}
use Rattle.revision_shelf.specs.Kept.{IdsRise}

-- ids that rise are above what they rise from
pub id_above : (low : ℕ) (ids : List ℕ) (i : ℕ) → IdsRise low ids → i < length ids → low < get_or ids i 0
id_above low [] i h lt = absurd (omega arith)
id_above low (id ∷ ids) zero h lt = h.0
id_above low (id ∷ ids) (suc i) h lt = let more = id_above id ids i h.1 (omega arith) in
    let first : low < id = h.0 in omega arith

-- and each later one is no lower
pub ids-mono : (low : ℕ) (ids : List ℕ) → IdsRise low ids → (i j : ℕ) → i ≤ j → j < length ids →
    get_or ids i 0 ≤ get_or ids j 0
ids-mono low [] h i j le lt = absurd (omega arith)
ids-mono low (id ∷ ids) h zero zero le lt = omega arith
ids-mono low (id ∷ ids) h zero (suc j) le lt = let more = id_above id ids j h.1 (omega arith) in omega arith
ids-mono low (id ∷ ids) h (suc i) zero le lt = absurd (omega arith)
ids-mono low (id ∷ ids) h (suc i) (suc j) le lt = ids-mono id ids h.1 i j (omega arith) (omega arith)

-- where an id stands at no place, taking it out leaves all
pub absent : (id : ℕ) (ids : List ℕ) → ((k : ℕ) → k < length ids → get_or ids k 0 ≡ id → ⊥) →
    filter (λ other. not (nat_eq other id)) ids ≡ ids
absent id [] none = refl
absent id (x ∷ xs) none =
    let differ : nat_eq x id ≡ false = by (nat_eq x id) refl in
    rw differ (ap (λ ys. x ∷ ys) (absent id xs (λ k lt. none (suc k) (omega arith))))
  where
    by : (t : Bool) → nat_eq x id ≡ t → nat_eq x id ≡ false
    by true e = let same : x ≡ id = grind (arith, nat_tests) in absurd (none 0 (omega arith) same)
    by false e = e

-- taking an id out is removing it at its place
pub removed : (low id : ℕ) (ids : List ℕ) (i : ℕ) → IdsRise low ids → i < length ids →
    get_or ids i 0 ≡ id → remove ids i ≡ filter (λ other. not (nat_eq other id)) ids
removed low id [] i h lt is = absurd (omega arith)
removed low id (x ∷ xs) zero h lt is =
    let test : nat_eq x id ≡ true = grind (arith, nat_tests) in
    rw test (sym (absent id xs (λ k within same. let above = id_above x xs k h.1 within in omega arith)))
removed low id (x ∷ xs) (suc i) h lt is =
    let above = id_above x xs i h.1 (omega arith) in
    let test : nat_eq x id ≡ false = grind (arith, nat_tests) in
    rw test (ap (λ ys. x ∷ ys) (removed x id xs i h.1 (omega arith) is))

-- no id stands where a search found that it would stand between two
pub not_found : (id : ℕ) (ids : List ℕ) (i : ℕ) → i ≤ length ids →
    ((k : ℕ) → k < i → get_or ids k 0 < id) →
    ((k : ℕ) → i ≤ k → k < length ids → id < get_or ids k 0) →
    filter (λ other. not (nat_eq other id)) ids ≡ ids
not_found id ids i within before after = absent id ids differs
  where
    differs : (k : ℕ) → k < length ids → get_or ids k 0 ≡ id → ⊥
    differs k lt same = by (nat_lt k i) refl
      where
        by : (t : Bool) → nat_lt k i ≡ t → ⊥
        by true e = let less : k < i = grind (arith, nat_tests) in let h = before k less in omega arith
        by false e = let more : i ≤ k = grind (arith, nat_tests) in let h = after k more lt in omega arith

-- where the search found the id, removing its place takes it out
pub cut_found : (id : ℕ) (ids slice : List ℕ) (i : ℕ) → IdsRise 0 ids → slice ≡ ids →
    IsBinarySearchResult (λ y. nat_cmp y id) slice (Ok i) →
    remove ids i ≡ filter (λ other. not (nat_eq other id)) ids
cut_found id ids slice i h same found =
    let own : IsBinarySearchResult (λ y. nat_cmp y id) ids (Ok i) = rw (← same) found in
    let at = searched ids id (Ok i) own (ids-mono 0 ids h) in
    removed 0 id ids i h at.0 at.1

-- where it did not, there is nothing to take out
pub cut_absent : (id : ℕ) (ids slice : List ℕ) (i : ℕ) → IdsRise 0 ids → slice ≡ ids →
    IsBinarySearchResult (λ y. nat_cmp y id) slice (Err i) →
    filter (λ other. not (nat_eq other id)) ids ≡ ids
cut_absent id ids slice i h same found =
    let own : IsBinarySearchResult (λ y. nat_cmp y id) ids (Err i) = rw (← same) found in
    let at = searched ids id (Err i) own (ids-mono 0 ids h) in
    not_found id ids i at.0 at.1 at.2
