-- The laws of pairs that rise.
use Rattle.std.proofs.Common.{◌≡◌, ℕ, zero, suc, ◌<◌, Bool, true, false, not, ◌&&◌, ◌||◌, cond, nat_eq, nat_lt, List, [], ◌∷◌, map, refl, ap, sym, ◌∙◌, subst, add-one, arith}
use Rattle.std.proofs.lemmas.Bool.Decides.{nat_tests}
use Rattle.std.specs.List.{AllByRecursion, list_any}
use Rattle.std.specs.List.Sorted.{IsStrictlyIncreasing}
use Rattle.link_index.specs.Pairs.{is_earlier, is_pair, has_pair, PairsRise, put_in, without, pairs_of, seconds_of, with_firsts, with_own}
use Rattle.link_index.proofs.OrderLemmas.{earlier_trans, earlier_differs, eq_means, eq_turned, pair_means, pair_self, pair_turned}
use Rattle.link_index.proofs.FrontLemmas.{rise_kept}
use Rattle.link_index.proofs.PairLemmas.{has_put, rise_put, none_there, none_behind}
use Rattle.link_index.proofs.SetLemmas.{has_without}

-- what is there after one second number was paired with more firsts
has_firsts : (own first second : ℕ) (firsts : List ℕ) (pairs : List (ℕ × ℕ)) →
    has_pair first second (with_firsts own firsts pairs)
    ≡ ((nat_eq second own && list_any (nat_eq first) firsts) || has_pair first second pairs)
has_firsts own first second [] pairs = by (nat_eq second own)
  where
    by : (t : Bool) → has_pair first second pairs ≡ ((t && false) || has_pair first second pairs)
    by true = refl
    by false = refl
has_firsts own first second (one ∷ firsts) pairs =
    has_firsts own first second firsts (put_in (one, own) pairs)
    ∙ rw (has_put (one, own) first second pairs, eq_turned one first, eq_turned own second)
    (by (nat_eq second own) (nat_eq first one) (list_any (nat_eq first) firsts)
    (has_pair first second pairs))
  where
    by : (a p q h : Bool) → ((a && q) || ((p && a) || h)) ≡ ((a && (p || q)) || h)
    by true true true h = refl
    by true true false h = refl
    by true false true h = refl
    by true false false h = refl
    by false true q h = refl
    by false false q h = refl

-- a second number that got firsts of its own is paired with these alone, and every other one as
-- before
pub has_own : (own first second : ℕ) (firsts : List ℕ) (pairs : List (ℕ × ℕ)) →
    has_pair first second (with_own own firsts pairs)
    ≡ cond (nat_eq second own) (list_any (nat_eq first) firsts) (has_pair first second pairs)
has_own own first second firsts pairs =
    has_firsts own first second firsts (without own pairs)
    ∙ rw (has_without own first second pairs)
    (by (nat_eq second own) (list_any (nat_eq first) firsts) (has_pair first second pairs))
  where
    by : (a q h : Bool) → ((a && q) || (not a && h)) ≡ cond a q h
    by true true h = refl
    by true false h = refl
    by false q h = refl

-- pairs with more firsts still rise
rise_firsts : (own : ℕ) (firsts : List ℕ) (pairs : List (ℕ × ℕ)) → PairsRise pairs →
    PairsRise (with_firsts own firsts pairs)
rise_firsts own [] pairs rise = rise
rise_firsts own (one ∷ firsts) pairs rise =
    rise_firsts own firsts (put_in (one, own) pairs) (rise_put (one, own) pairs rise)

-- pairs where a second number got firsts of its own still rise
pub rise_own : (own : ℕ) (firsts : List ℕ) (pairs : List (ℕ × ℕ)) → PairsRise pairs →
    PairsRise (with_own own firsts pairs)
rise_own own firsts pairs rise =
    rise_firsts own firsts (without own pairs)
    (rise_kept (λ pair. not (nat_eq pair.1 own)) pairs rise)

-- the seconds of a first number are the numbers that are paired with it
pub has_second : (first second : ℕ) (pairs : List (ℕ × ℕ)) →
    list_any (nat_eq second) (seconds_of first pairs) ≡ has_pair first second pairs
has_second first second [] = refl
has_second first second (pair ∷ pairs) = by (nat_eq pair.0 first) (has_second first second pairs)
  where
    by : (t : Bool) →
        list_any (nat_eq second) (seconds_of first pairs) ≡ has_pair first second pairs →
        list_any (nat_eq second)
        (map (λ (one : ℕ × ℕ). one.1) (cond t (pair ∷ pairs_of first pairs) (pairs_of first pairs)))
        ≡ ((t && nat_eq pair.1 second) || has_pair first second pairs)
    by true more = rw (more, eq_turned second pair.1) refl
    by false more = more

-- the first numbers of the pairs that a first number has are that number
all_own : (first : ℕ) (pairs : List (ℕ × ℕ)) →
    AllByRecursion (λ (pair : ℕ × ℕ). pair.0 ≡ first) (pairs_of first pairs)
all_own first [] = tt
all_own first (pair ∷ pairs) = by (nat_eq pair.0 first) refl (all_own first pairs)
  where
    by : (t : Bool) → nat_eq pair.0 first ≡ t →
        AllByRecursion (λ (one : ℕ × ℕ). one.0 ≡ first) (pairs_of first pairs) →
        AllByRecursion (λ (one : ℕ × ℕ). one.0 ≡ first)
        (cond t (pair ∷ pairs_of first pairs) (pairs_of first pairs))
    by true e more = (eq_means pair.0 first e, more)
    by false e more = more

-- the numbers of two pairs with one first number
second_step : (x y p q : ℕ) → x ≡ y → cond (nat_eq x y) (nat_lt p q) (nat_lt x y) ≡ true → p < q
second_step x y p q same h = grind (arith, nat_tests)

-- the second numbers of pairs with one first number rise
seconds_rise : (first : ℕ) (pairs : List (ℕ × ℕ)) → PairsRise pairs →
    AllByRecursion (λ (pair : ℕ × ℕ). pair.0 ≡ first) pairs →
    IsStrictlyIncreasing (map (λ (pair : ℕ × ℕ). pair.1) pairs)
seconds_rise first [] rise own = λ k lt. absurd (omega arith)
seconds_rise first (pair ∷ []) rise own = λ k lt. absurd (omega arith)
seconds_rise first (pair ∷ next ∷ pairs) rise own =
    at (seconds_rise first (next ∷ pairs) rise.1 own.1)
  where
    at : IsStrictlyIncreasing (map (λ (one : ℕ × ℕ). one.1) (next ∷ pairs)) →
        IsStrictlyIncreasing (map (λ (one : ℕ × ℕ). one.1) (pair ∷ next ∷ pairs))
    at more zero lt = second_step pair.0 next.0 pair.1 next.1 (own.0 ∙ sym own.1.0) rise.0.0
    at more (suc k) lt = rw (add-one (suc k)) (rw (add-one k) at (more k (omega arith)))

-- the seconds of a first number rise
pub rise_seconds : (first : ℕ) (pairs : List (ℕ × ℕ)) → PairsRise pairs →
    IsStrictlyIncreasing (seconds_of first pairs)
rise_seconds first pairs rise =
    seconds_rise first (pairs_of first pairs) (rise_kept (λ pair. nat_eq pair.0 first) pairs rise)
    (all_own first pairs)

-- what holds of all pairs holds of one that is there
all_there : (P : ℕ × ℕ → Type 0) (first second : ℕ) (pairs : List (ℕ × ℕ)) → AllByRecursion P pairs →
    has_pair first second pairs ≡ true → P (first, second)
all_there P first second [] all there = cc
all_there P first second (pair ∷ pairs) all there =
    by (is_pair first second pair) refl there (all_there P first second pairs all.1)
  where
    by : (t : Bool) → is_pair first second pair ≡ t → (t || has_pair first second pairs) ≡ true →
        (has_pair first second pairs ≡ true → P (first, second)) → P (first, second)
    by true e there more =
        let is = pair_means pair first second e in
        subst (λ (m : ℕ). P (m, second)) is.0 (subst (λ (n : ℕ). P (pair.0, n)) is.1 all.0)
    by false e there more = more there

-- no pair comes before itself
never_itself : (pair : ℕ × ℕ) → is_earlier pair pair ≡ true → ⊥
never_itself pair before =
    let differs = earlier_differs pair pair before in
    let same = pair_self pair.0 pair.1 in
    cc

-- the first pairs of two lists that have the same pairs are one
same_first : (pair other : ℕ × ℕ) (pairs others : List (ℕ × ℕ)) → PairsRise (pair ∷ pairs) →
    PairsRise (other ∷ others) →
    ((first second : ℕ) → has_pair first second (pair ∷ pairs) ≡ has_pair first second (other ∷ others)) →
    is_pair pair.0 pair.1 other ≡ true
same_first pair other pairs others rise rises same =
    by (is_pair pair.0 pair.1 other) refl
  where
    -- the first pair is there among the others
    there : (is_pair pair.0 pair.1 other || has_pair pair.0 pair.1 others) ≡ true
    there = sym (same pair.0 pair.1) ∙ rw (pair_self pair.0 pair.1) refl

    -- and the other way round
    back : (is_pair other.0 other.1 pair || has_pair other.0 other.1 pairs) ≡ true
    back = same other.0 other.1 ∙ rw (pair_self other.0 other.1) refl

    by : (t : Bool) → is_pair pair.0 pair.1 other ≡ t → is_pair pair.0 pair.1 other ≡ true
    by true e = e
    by false e =
        let later : has_pair pair.0 pair.1 others ≡ true = rw e at there in
        let turned : is_pair other.0 other.1 pair ≡ false = sym (pair_turned pair other) ∙ e in
        let behind : has_pair other.0 other.1 pairs ≡ true = rw turned at back in
        let one = all_there (λ next. is_earlier other next ≡ true) pair.0 pair.1 others rises.0 later in
        let two = all_there (λ next. is_earlier pair next ≡ true) other.0 other.1 pairs rise.0 behind in
        absurd (never_itself pair (earlier_trans pair other pair two one))

-- what is there behind the first pair
there_behind : (pair : ℕ × ℕ) (pairs : List (ℕ × ℕ)) → PairsRise (pair ∷ pairs) → (first second : ℕ) →
    has_pair first second pairs
    ≡ (not (is_pair pair.0 pair.1 (first, second)) && has_pair first second (pair ∷ pairs))
there_behind pair pairs rise first second =
    by (is_pair first second pair) refl
  where
    by : (t : Bool) → is_pair first second pair ≡ t →
        has_pair first second pairs
        ≡ (not (is_pair pair.0 pair.1 (first, second)) && (t || has_pair first second pairs))
    by true e =
        let is = pair_means pair first second e in
        let none = none_there pair.0 pair.1 pairs (none_behind pair pairs rise.0) in
        let turned : is_pair pair.0 pair.1 (first, second) ≡ true =
        pair_turned pair (first, second) ∙ e in
        rw turned (rw (is.0, is.1) at none)
    by false e =
        let turned : is_pair pair.0 pair.1 (first, second) ≡ false =
        pair_turned pair (first, second) ∙ e in
        rw turned refl

-- pairs of the same numbers are one
one_pair : (some other : ℕ × ℕ) → some.0 ≡ other.0 → some.1 ≡ other.1 → some ≡ other
one_pair (x, p) (y, q) first second = cc

-- two lists of pairs that rise and have the same pairs are one list
pub rising_one : (some others : List (ℕ × ℕ)) → PairsRise some → PairsRise others →
    ((first second : ℕ) → has_pair first second some ≡ has_pair first second others) →
    some ≡ others
rising_one [] [] rise rises same = refl
rising_one [] (other ∷ others) rise rises same =
    let there : has_pair other.0 other.1 (other ∷ others) ≡ true =
    rw (pair_self other.0 other.1) refl in
    let is = same other.0 other.1 in
    absurd (cc)
rising_one (pair ∷ pairs) [] rise rises same =
    let there : has_pair pair.0 pair.1 (pair ∷ pairs) ≡ true =
    rw (pair_self pair.0 pair.1) refl in
    let is = same pair.0 pair.1 in
    absurd (cc)
rising_one (pair ∷ pairs) (other ∷ others) rise rises same =
    let first = same_first pair other pairs others rise rises same in
    let means = pair_means other pair.0 pair.1 first in
    let one : other ≡ pair = one_pair other pair means.0 means.1 in
    let rest = rising_one pairs others rise.1 rises.1 (λ first second.
    there_behind pair pairs rise first second
    ∙ ap (λ (there : Bool). not (is_pair pair.0 pair.1 (first, second)) && there) (same first second)
    ∙ ap (λ (head : ℕ × ℕ). not (is_pair head.0 head.1 (first, second))
    && has_pair first second (other ∷ others)) (sym one)
    ∙ sym (there_behind other others rises first second)) in
    rw (one, rest) refl

-- what holds of the second numbers of all pairs holds of the seconds of a first number
pub all_seconds : (P : ℕ → Type 0) (first : ℕ) (pairs : List (ℕ × ℕ)) →
    AllByRecursion (λ (pair : ℕ × ℕ). P pair.1) pairs → AllByRecursion P (seconds_of first pairs)
all_seconds P first [] all = tt
all_seconds P first (pair ∷ pairs) all =
    by (nat_eq pair.0 first) (all_seconds P first pairs all.1)
  where
    by : (t : Bool) → AllByRecursion P (seconds_of first pairs) →
        AllByRecursion P
        (map (λ (one : ℕ × ℕ). one.1) (cond t (pair ∷ pairs_of first pairs) (pairs_of first pairs)))
    by true more = (all.0, more)
    by false more = more
