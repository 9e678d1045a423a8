-- Pairs of a moment and a page: their order, and what holds of each in a list.
use Rattle.std.proofs.Common.{◌≡◌, ℕ, zero, suc, ◌<◌, Bool, true, false, cond, nat_eq, nat_lt, nat_le, List, [], ◌∷◌, Some, filter, length, get_or, refl, subst, arith}
use Rattle.std.proofs.lemmas.Bool.Decides.{nat_tests}
use Rattle.std.specs.List.{AllByRecursion}
use Rattle.time_table.specs.Table.{is_earlier, moment_in, put_in}

-- the numbers of three pairs, each before the next
trans_step : (x y z p q r : ℕ) → cond (nat_eq x y) (nat_lt p q) (nat_lt x y) ≡ true →
    cond (nat_eq y z) (nat_lt q r) (nat_lt y z) ≡ true →
    cond (nat_eq x z) (nat_lt p r) (nat_lt x z) ≡ true
trans_step x y z p q r h k = grind (arith, nat_tests)

-- what comes before a pair comes before those that the pair comes before
pub earlier_trans : (a b c : ℕ × ℕ) → is_earlier a b ≡ true → is_earlier b c ≡ true →
    is_earlier a c ≡ true
earlier_trans a b c h k = trans_step a.0 b.0 c.0 a.1 b.1 c.1 h k

-- the numbers of two pairs of different pages
other_step : (x y p q : ℕ) → nat_eq p q ≡ false →
    cond (nat_eq x y) (nat_lt p q) (nat_lt x y) ≡ false →
    cond (nat_eq y x) (nat_lt q p) (nat_lt y x) ≡ true
other_step x y p q differ h = grind (arith, nat_tests)

-- of two pairs of different pages one comes before the other
pub earlier_other : (a b : ℕ × ℕ) → nat_eq a.1 b.1 ≡ false → is_earlier a b ≡ false →
    is_earlier b a ≡ true
earlier_other a b differ h = other_step a.0 b.0 a.1 b.1 differ h

-- no pair comes before one with its numbers
pub earlier_self : (x y p q : ℕ) → x ≡ y → p ≡ q →
    cond (nat_eq x y) (nat_lt p q) (nat_lt x y) ≡ false
earlier_self x y p q same own = grind (arith, nat_tests)

-- what comes before a pair has no later moment
pub earlier_low : (a b : ℕ × ℕ) (t : ℕ) → is_earlier a b ≡ true → nat_le b.0 t ≡ true →
    nat_le a.0 t ≡ true
earlier_low a b t h le = step a.0 b.0 a.1 b.1 t h le
  where
    step : (x y p q t : ℕ) → cond (nat_eq x y) (nat_lt p q) (nat_lt x y) ≡ true →
        nat_le y t ≡ true → nat_le x t ≡ true
    step x y p q t h le = grind (arith, nat_tests)

-- two numbers the other way round
pub eq_turned : (m n : ℕ) (t : Bool) → nat_eq m n ≡ t → nat_eq n m ≡ t
eq_turned m n true h = grind (arith, nat_tests)
eq_turned m n false h = grind (arith, nat_tests)

-- a number is itself
pub eq_self : (n : ℕ) → nat_eq n n ≡ true
eq_self n = grind (arith, nat_tests)

-- what a test of two numbers means
pub eq_means : (m n : ℕ) → nat_eq m n ≡ true → m ≡ n
eq_means m n h = grind (arith, nat_tests)

module _ (P : ℕ × ℕ → Type 0) where
  -- what holds of all holds of each
  pub all_at : (entries : List (ℕ × ℕ)) (k : ℕ) (d : ℕ × ℕ) → AllByRecursion P entries →
      k < length entries → P (get_or entries k d)
  all_at [] k d all lt = absurd (omega arith)
  all_at (entry ∷ entries) zero d all lt = all.0
  all_at (entry ∷ entries) (suc k) d all lt = all_at entries k d all.1 (omega arith)

  -- what holds of all holds of those that a test keeps
  pub all_kept : (test : ℕ × ℕ → Bool) (entries : List (ℕ × ℕ)) → AllByRecursion P entries →
      AllByRecursion P (filter test entries)
  all_kept test [] all = tt
  all_kept test (entry ∷ entries) all = by (test entry) (all_kept test entries all.1)
    where
      by : (t : Bool) → AllByRecursion P (filter test entries) →
          AllByRecursion P (cond t (entry ∷ filter test entries) (filter test entries))
      by true more = (all.0, more)
      by false more = more

  -- what holds of all and of one more holds of all with it
  pub all_put : (new : ℕ × ℕ) (entries : List (ℕ × ℕ)) → AllByRecursion P entries → P new →
      AllByRecursion P (put_in new entries)
  all_put new [] all one = (one, tt)
  all_put new (entry ∷ entries) all one =
      by (is_earlier entry new) (all_put new entries all.1 one)
    where
      by : (t : Bool) → AllByRecursion P (put_in new entries) →
          AllByRecursion P (cond t (entry ∷ put_in new entries) (new ∷ entry ∷ entries))
      by true more = (all.0, more)
      by false more = (one, all)

  -- what holds of all holds of a page with its moment
  pub all_found : (page at : ℕ) (entries : List (ℕ × ℕ)) → AllByRecursion P entries →
      moment_in entries page ≡ Some at → P (at, page)
  all_found page at [] all is = cc
  all_found page at (entry ∷ entries) all is =
      by (nat_eq entry.1 page) refl is (all_found page at entries all.1)
    where
      by : (t : Bool) → nat_eq entry.1 page ≡ t →
          cond t (Some entry.0) (moment_in entries page) ≡ Some at →
          (moment_in entries page ≡ Some at → P (at, page)) → P (at, page)
      by true e found more =
          let moment : entry.0 ≡ at = cc in
          let own : entry.1 ≡ page = eq_means entry.1 page e in
          subst (λ (p : ℕ). P (at, p)) own (subst (λ (m : ℕ). P (m, entry.1)) moment all.0)
      by false e found more = more found
