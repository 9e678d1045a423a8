-- Numbers that are given out in order: the last, and whether one is left.
use Rattle.std.proofs.Common.{◌≡◌, ◌<◌, ◌≤◌, ◌+◌, ℕ, true, false, nat_lt, arith}
use Rattle.std.proofs.lemmas.Bool.Decides.{nat_tests}

-- what is no more than before one that is next is no more than the last
pub count_full : (last count next : ℕ) → count + 1 ≡ next → last ≤ count → nat_lt last next ≡ true
count_full last count next is full = grind (arith, nat_tests)

-- nor where one is left
pub count_left : (last count next : ℕ) → count + 1 ≡ next → count < last → nat_lt last next ≡ false
count_left last count next is left = grind (arith, nat_tests)
