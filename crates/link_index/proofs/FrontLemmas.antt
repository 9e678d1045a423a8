-- Tests that pairs pass at their front: what a partition point is, and what stands before and
-- behind it.
use Rattle.std.proofs.Common.{◌≡◌, ℕ, zero, suc, ◌≤◌, ◌-◌, Bool, true, false, not, cond, nat_eq, nat_le, nat_lt, List, [], ◌∷◌, filter, take, drop, length, get_or, refl, ap, length-drop, arith}
use Rattle.std.proofs.Math.Seq.{take-length}
use Rattle.std.proofs.lemmas.Bool.Decides.{nat_tests}
use Rattle.std.specs.List.{AllByRecursion}
use Rattle.std.specs.List.Sorted.{IsPartitionPoint, IsPartitionedBy}
use Rattle.link_index.specs.Pairs.{is_earlier, pairs_of, PairsRise}
use Rattle.link_index.specs.Kept.{leading}
use Rattle.link_index.proofs.OrderLemmas.{all_at, all_kept}

-- pairs that a test keeps still rise
pub rise_kept : (test : ℕ × ℕ → Bool) (pairs : List (ℕ × ℕ)) → PairsRise pairs →
    PairsRise (filter test pairs)
rise_kept test [] rise = tt
rise_kept test (pair ∷ pairs) rise = by (test pair) (rise_kept test pairs rise.1)
  where
    by : (t : Bool) → PairsRise (filter test pairs) →
        PairsRise (cond t (pair ∷ filter test pairs) (filter test pairs))
    by true more = (all_kept (λ later. is_earlier pair later ≡ true) test pairs rise.0, more)
    by false more = more

module _ (test : ℕ × ℕ → Bool)
    (first : (a b : ℕ × ℕ) → is_earlier a b ≡ true → test b ≡ true → test a ≡ true) where
  -- those that pass stand before the others
  pub parted : (pairs : List (ℕ × ℕ)) → PairsRise pairs → IsPartitionedBy test pairs
  parted [] rise i j d le lt h = absurd (omega arith)
  parted (pair ∷ pairs) rise zero zero d le lt h = h
  parted (pair ∷ pairs) rise zero (suc j) d le lt h =
      let later = all_at (λ later. is_earlier pair later ≡ true) pairs j d rise.0 (omega arith) in
      first pair (get_or pairs j d) later h
  parted (pair ∷ pairs) rise (suc i) zero d le lt h = absurd (omega arith)
  parted (pair ∷ pairs) rise (suc i) (suc j) d le lt h =
      parted pairs rise.1 i j d (omega arith) (omega arith) h

  -- behind one that fails none passes
  none_pass : (pair : ℕ × ℕ) (pairs : List (ℕ × ℕ)) → test pair ≡ false →
      AllByRecursion (λ later. is_earlier pair later ≡ true) pairs → filter test pairs ≡ []
  none_pass pair [] fails all = refl
  none_pass pair (next ∷ pairs) fails all = by (test next) refl (none_pass pair pairs fails all.1)
    where
      by : (t : Bool) → test next ≡ t → filter test pairs ≡ [] →
          cond t (next ∷ filter test pairs) (filter test pairs) ≡ []
      by true e more =
          let passed = first pair next all.0 e in
          cc
      by false e more = more

  -- and all fail
  all_fail : (pair : ℕ × ℕ) (pairs : List (ℕ × ℕ)) → test pair ≡ false →
      AllByRecursion (λ later. is_earlier pair later ≡ true) pairs →
      filter (λ one. not (test one)) pairs ≡ pairs
  all_fail pair [] fails all = refl
  all_fail pair (next ∷ pairs) fails all = by (test next) refl (all_fail pair pairs fails all.1)
    where
      by : (t : Bool) → test next ≡ t → filter (λ one. not (test one)) pairs ≡ pairs →
          cond (not t) (next ∷ filter (λ one. not (test one)) pairs)
          (filter (λ one. not (test one)) pairs) ≡ next ∷ pairs
      by true e more =
          let passed = first pair next all.0 e in
          cc
      by false e more = ap (λ (rest : List (ℕ × ℕ)). next ∷ rest) more

  -- those at the front are all that pass
  pub front_is : (pairs : List (ℕ × ℕ)) → PairsRise pairs →
      take (leading test pairs) pairs ≡ filter test pairs
  front_is [] rise = refl
  front_is (pair ∷ pairs) rise = by (test pair) refl (front_is pairs rise.1)
    where
      by : (t : Bool) → test pair ≡ t →
          take (leading test pairs) pairs ≡ filter test pairs →
          take (cond t (suc (leading test pairs)) 0) (pair ∷ pairs)
          ≡ cond t (pair ∷ filter test pairs) (filter test pairs)
      by true e more = ap (λ (rest : List (ℕ × ℕ)). pair ∷ rest) more
      by false e more = rw (none_pass pair pairs e rise.0) refl

  -- those behind the front are all that fail
  pub back_is : (pairs : List (ℕ × ℕ)) → PairsRise pairs →
      drop (leading test pairs) pairs ≡ filter (λ one. not (test one)) pairs
  back_is [] rise = refl
  back_is (pair ∷ pairs) rise = by (test pair) refl (back_is pairs rise.1)
    where
      by : (t : Bool) → test pair ≡ t →
          drop (leading test pairs) pairs ≡ filter (λ one. not (test one)) pairs →
          drop (cond t (suc (leading test pairs)) 0) (pair ∷ pairs)
          ≡ cond (not t) (pair ∷ filter (λ one. not (test one)) pairs)
          (filter (λ one. not (test one)) pairs)
      by true e more = more
      by false e more = rw (all_fail pair pairs e rise.0) refl

-- where all before a place pass, and none behind does, it is the number of those at the front
pub point_is : (test : ℕ × ℕ → Bool) (pairs : List (ℕ × ℕ)) (i : ℕ) → i ≤ length pairs →
    IsPartitionPoint (λ pair. test pair ≡ true) (λ pair. test pair ≡ false) pairs i →
    i ≡ leading test pairs
point_is test [] zero le point = refl
point_is test [] (suc i) le point = absurd (omega arith)
point_is test (pair ∷ pairs) zero le point =
    let behind = point.1 zero pair (omega arith) (omega arith) in
    rw behind refl
point_is test (pair ∷ pairs) (suc i) le point =
    let before = point.0 zero pair (omega arith) (omega arith) in
    rw before (ap suc (point_is test pairs i (omega arith) (
      λ k d low high. point.0 (suc k) d (omega arith) (omega arith),
      λ k d low high. point.1 (suc k) d (omega arith) (omega arith),
    )))

-- the numbers of a pair before one whose first number is low
low_step : (x y p q n : ℕ) → cond (nat_eq x y) (nat_lt p q) (nat_lt x y) ≡ true → nat_le y n ≡ true →
    nat_le x n ≡ true
low_step x y p q n h le = grind (arith, nat_tests)

-- what comes before a pair has no greater first number
pub first_low : (n : ℕ) (a b : ℕ × ℕ) → is_earlier a b ≡ true → nat_le b.0 n ≡ true → nat_le a.0 n ≡ true
first_low n a b h le = low_step a.0 b.0 a.1 b.1 n h le

-- the numbers of a pair before one whose first number is lower
below_step : (x y p q n : ℕ) → cond (nat_eq x y) (nat_lt p q) (nat_lt x y) ≡ true → nat_lt y n ≡ true →
    nat_lt x n ≡ true
below_step x y p q n h lt = grind (arith, nat_tests)

-- what comes before a pair below a number is below it
pub first_below : (n : ℕ) (a b : ℕ × ℕ) → is_earlier a b ≡ true → nat_lt b.0 n ≡ true →
    nat_lt a.0 n ≡ true
first_below n a b h lt = below_step a.0 b.0 a.1 b.1 n h lt

-- what is left behind a place is all that stands there
pub rest_is : (n : ℕ) (pairs : List (ℕ × ℕ)) → take (length pairs - n) (drop n pairs) ≡ drop n pairs
rest_is n pairs = rw (← length-drop n pairs) (take-length (drop n pairs))

-- tests that answer the same keep the same
pub filter_alike : (p q : ℕ × ℕ → Bool) → ((pair : ℕ × ℕ) → p pair ≡ q pair) → (pairs : List (ℕ × ℕ)) →
    filter p pairs ≡ filter q pairs
filter_alike p q same [] = refl
filter_alike p q same (pair ∷ pairs) =
    rw (same pair) (ap (λ (rest : List (ℕ × ℕ)). cond (q pair) (pair ∷ rest) rest)
    (filter_alike p q same pairs))

-- a number that is not below another is at least that
pub not_below : (m n : ℕ) → not (nat_lt m n) ≡ nat_le n m
not_below m n = by (nat_lt m n) refl
  where
    by : (t : Bool) → nat_lt m n ≡ t → not t ≡ nat_le n m
    by true h = grind (arith, nat_tests)
    by false h = grind (arith, nat_tests)

-- the pairs at least at a first number among those at most at it are those of that number
pub between : (n : ℕ) (pairs : List (ℕ × ℕ)) →
    filter (λ (pair : ℕ × ℕ). nat_le n pair.0) (filter (λ (pair : ℕ × ℕ). nat_le pair.0 n) pairs)
    ≡ pairs_of n pairs
between n [] = refl
between n (pair ∷ pairs) =
    by (nat_le pair.0 n) refl (nat_le n pair.0) refl (nat_eq pair.0 n) refl (between n pairs)
  where
    -- the three tests fit each other
    fits : (m : ℕ) (t u v : Bool) → nat_le m n ≡ t → nat_le n m ≡ u → nat_eq m n ≡ v →
        cond t u false ≡ v
    fits m true true true e f g = refl
    fits m true true false e f g = absurd (grind (arith, nat_tests))
    fits m true false true e f g = absurd (grind (arith, nat_tests))
    fits m true false false e f g = refl
    fits m false u true e f g = absurd (grind (arith, nat_tests))
    fits m false u false e f g = refl

    by : (t : Bool) → nat_le pair.0 n ≡ t → (u : Bool) → nat_le n pair.0 ≡ u → (v : Bool) →
        nat_eq pair.0 n ≡ v →
        filter (λ (one : ℕ × ℕ). nat_le n one.0) (filter (λ (one : ℕ × ℕ). nat_le one.0 n) pairs)
        ≡ pairs_of n pairs →
        filter (λ (one : ℕ × ℕ). nat_le n one.0)
        (cond t (pair ∷ filter (λ (one : ℕ × ℕ). nat_le one.0 n) pairs)
        (filter (λ (one : ℕ × ℕ). nat_le one.0 n) pairs))
        ≡ cond v (pair ∷ pairs_of n pairs) (pairs_of n pairs)
    by true e true f true g more = rw f (ap (λ (rest : List (ℕ × ℕ)). pair ∷ rest) more)
    by true e true f false g more =
        let clash = fits pair.0 true true false e f g in
        absurd (cc)
    by true e false f true g more =
        let clash = fits pair.0 true false true e f g in
        absurd (cc)
    by true e false f false g more = rw f more
    by false e u f true g more =
        let clash = fits pair.0 false u true e f g in
        absurd (cc)
    by false e u f false g more = more
