-- Words and the parts of a list up to a byte.
use Rattle.std.proofs.Common.{◌≡◌, ℕ, Bool, true, false, List, length, take, Some, None, cond, nat_lt, refl, ap, arith}
use Rattle.std.specs.Prelude.{position}
use Rattle.std.specs.List.{before_first, position_or_len}
use Rattle.std.proofs.lemmas.List.{take_all}
use Rattle.std.proofs.lemmas.Bool.Decides.{nat_tests}

-- what stands before the first that passes is as long as its place
pub before_first-found : (p : ℕ → Bool) (bytes : List ℕ) (n : ℕ) → position p bytes ≡ Some n →
    before_first p bytes ≡ take n bytes
before_first-found p bytes n is =
    by_test (position_or_len p bytes) (nat_lt (position_or_len p bytes) (length bytes)) is
  where
    -- by whether the place is within the list
    by_test : (k : ℕ) (t : Bool) → cond t (Some k) None ≡ Some n → take k bytes ≡ take n bytes
    by_test k true is = let same : k ≡ n = cc is in ap (λ m. take m bytes) same
    by_test k false is = absurd (cc is)

-- where none passes it is all of it
pub before_first-all : (p : ℕ → Bool) (bytes : List ℕ) → position p bytes ≡ None →
    before_first p bytes ≡ bytes
before_first-all p bytes is =
    by_test (position_or_len p bytes) (nat_lt (position_or_len p bytes) (length bytes)) refl is
  where
    -- by whether the place is within the list
    by_test : (k : ℕ) (t : Bool) → nat_lt k (length bytes) ≡ t → cond t (Some k) None ≡ None →
        take k bytes ≡ bytes
    by_test k true test is = absurd (cc is)
    by_test k false test is = take_all k bytes (grind (arith, nat_tests))
