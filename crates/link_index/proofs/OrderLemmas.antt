-- Pairs of two numbers: their order, and what holds of each in a list.
use Rattle.std.proofs.Common.{◌≡◌, ℕ, zero, suc, ◌<◌, Bool, true, false, ◌&&◌, cond, nat_eq, nat_lt, List, [], ◌∷◌, filter, length, get_or, refl, arith}
use Rattle.std.proofs.lemmas.Bool.Decides.{nat_tests}
use Rattle.std.specs.List.{AllByRecursion}
use Rattle.link_index.specs.Pairs.{is_earlier, is_pair, put_in}

-- the numbers of three pairs, each before the next
trans_step : (x y z p q r : ℕ) → cond (nat_eq x y) (nat_lt p q) (nat_lt x y) ≡ true →
    cond (nat_eq y z) (nat_lt q r) (nat_lt y z) ≡ true →
    cond (nat_eq x z) (nat_lt p r) (nat_lt x z) ≡ true
trans_step x y z p q r h k = grind (arith, nat_tests)

-- what comes before a pair comes before those that the pair comes before
pub earlier_trans : (a b c : ℕ × ℕ) → is_earlier a b ≡ true → is_earlier b c ≡ true →
    is_earlier a c ≡ true
earlier_trans a b c h k = trans_step a.0 b.0 c.0 a.1 b.1 c.1 h k

-- the numbers of two pairs, of which the first does not come first
other_step : (x y p q : ℕ) → (nat_eq x y && nat_eq p q) ≡ false →
    cond (nat_eq x y) (nat_lt p q) (nat_lt x y) ≡ false →
    cond (nat_eq y x) (nat_lt q p) (nat_lt y x) ≡ true
other_step x y p q differ h = grind (arith, nat_tests)

-- of two different pairs one comes before the other
pub earlier_other : (a b : ℕ × ℕ) → is_pair b.0 b.1 a ≡ false → is_earlier a b ≡ false →
    is_earlier b a ≡ true
earlier_other a b differ h = other_step a.0 b.0 a.1 b.1 differ h

-- the numbers of a pair that comes before another
differ_step : (x y p q : ℕ) → cond (nat_eq x y) (nat_lt p q) (nat_lt x y) ≡ true →
    (nat_eq x y && nat_eq p q) ≡ false
differ_step x y p q h = grind (arith, nat_tests)

-- what comes before a pair is not that pair
pub earlier_differs : (a b : ℕ × ℕ) → is_earlier a b ≡ true → is_pair b.0 b.1 a ≡ false
earlier_differs a b h = differ_step a.0 b.0 a.1 b.1 h

-- the numbers of a pair that comes after another
later_step : (x y p q : ℕ) → cond (nat_eq y x) (nat_lt q p) (nat_lt y x) ≡ true →
    (nat_eq x y && nat_eq p q) ≡ false
later_step x y p q h = grind (arith, nat_tests)

-- what comes after a pair is not that pair
pub later_differs : (a b : ℕ × ℕ) → is_earlier b a ≡ true → is_pair b.0 b.1 a ≡ false
later_differs a b h = later_step a.0 b.0 a.1 b.1 h

-- what comes before a pair comes before those behind it
pub behind_all : (new pair : ℕ × ℕ) (pairs : List (ℕ × ℕ)) → is_earlier new pair ≡ true →
    AllByRecursion (λ later. is_earlier pair later ≡ true) pairs →
    AllByRecursion (λ later. is_earlier new later ≡ true) pairs
behind_all new pair [] before all = tt
behind_all new pair (next ∷ pairs) before all =
    (earlier_trans new pair next before all.0, behind_all new pair pairs before all.1)

-- what a test of two numbers means
pub eq_means : (m n : ℕ) → nat_eq m n ≡ true → m ≡ n
eq_means m n h = grind (arith, nat_tests)

-- a number is itself
pub eq_self : (n : ℕ) → nat_eq n n ≡ true
eq_self n = grind (arith, nat_tests)

-- two numbers the other way round
pub eq_turned : (m n : ℕ) → nat_eq m n ≡ nat_eq n m
eq_turned m n = choice (nat_eq m n) refl
  where
    choice : (t : Bool) → nat_eq m n ≡ t → t ≡ nat_eq n m
    choice true h = grind (arith, nat_tests)
    choice false h = grind (arith, nat_tests)

-- two numbers of pairs that are the same
pair_step : (x y p q : ℕ) → (nat_eq x y && nat_eq p q) ≡ true → (x ≡ y) × (p ≡ q)
pair_step x y p q h = (grind (arith, nat_tests), grind (arith, nat_tests))

-- what a test of two pairs means
pub pair_means : (pair : ℕ × ℕ) (first second : ℕ) → is_pair first second pair ≡ true →
    (pair.0 ≡ first) × (pair.1 ≡ second)
pair_means pair first second h = pair_step pair.0 first pair.1 second h

-- a pair is itself
pub pair_self : (first second : ℕ) → is_pair first second (first, second) ≡ true
pair_self first second = rw (eq_self first, eq_self second) refl

-- a test of two pairs the other way round
pub pair_turned : (a b : ℕ × ℕ) → is_pair a.0 a.1 b ≡ is_pair b.0 b.1 a
pair_turned a b = rw (eq_turned b.0 a.0, eq_turned b.1 a.1) refl

module _ (P : ℕ × ℕ → Type 0) where
  -- what holds of all holds of each
  pub all_at : (pairs : List (ℕ × ℕ)) (k : ℕ) (d : ℕ × ℕ) → AllByRecursion P pairs →
      k < length pairs → P (get_or pairs k d)
  all_at [] k d all lt = absurd (omega arith)
  all_at (pair ∷ pairs) zero d all lt = all.0
  all_at (pair ∷ pairs) (suc k) d all lt = all_at pairs k d all.1 (omega arith)

  -- what holds of all holds of those that a test keeps
  pub all_kept : (test : ℕ × ℕ → Bool) (pairs : List (ℕ × ℕ)) → AllByRecursion P pairs →
      AllByRecursion P (filter test pairs)
  all_kept test [] all = tt
  all_kept test (pair ∷ pairs) all = by (test pair) (all_kept test pairs all.1)
    where
      by : (t : Bool) → AllByRecursion P (filter test pairs) →
          AllByRecursion P (cond t (pair ∷ filter test pairs) (filter test pairs))
      by true more = (all.0, more)
      by false more = more

  -- what holds of all and of one more holds of all with it
  pub all_put : (new : ℕ × ℕ) (pairs : List (ℕ × ℕ)) → AllByRecursion P pairs → P new →
      AllByRecursion P (put_in new pairs)
  all_put new [] all one = (one, tt)
  all_put new (pair ∷ pairs) all one =
      by (is_earlier pair new) (is_pair new.0 new.1 pair) (all_put new pairs all.1 one)
    where
      by : (t u : Bool) → AllByRecursion P (put_in new pairs) →
          AllByRecursion P (cond t (pair ∷ put_in new pairs) (cond u (pair ∷ pairs) (new ∷ pair ∷ pairs)))
      by true u more = (all.0, more)
      by false true more = all
      by false false more = (one, all)
