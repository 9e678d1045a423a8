-- Pairs of numbers that rise by the first and then by the second: what is kept of who shows a page
-- and of who links to it.
use Rattle.std.specs.Prelude.{◌≡◌, ℕ, Bool, true, not, ◌&&◌, nat_eq, nat_lt, if◌then◌else◌, List, [], ◌∷◌, filter, map}
use Rattle.std.specs.List.{AllByRecursion, list_any}

-- The pairs, and how many more can be put in without taking memory.
pub record PairList : Type 0 where
  pub pairs : List (ℕ × ℕ)
  pub spare : ℕ

-- whether one pair comes before another: its first number does, or with the same first number its
-- second
abbrev pub is_earlier : ℕ × ℕ → ℕ × ℕ → Bool
is_earlier one other = if nat_eq one.0 other.0 then nat_lt one.1 other.1 else nat_lt one.0 other.0

-- whether a pair has these two numbers
abbrev pub is_pair : ℕ → ℕ → ℕ × ℕ → Bool
is_pair first second pair = nat_eq pair.0 first && nat_eq pair.1 second

-- whether two numbers are a pair
abbrev pub has_pair : ℕ → ℕ → List (ℕ × ℕ) → Bool
has_pair first second pairs = list_any (λ pair. is_pair first second pair) pairs

-- the pairs rise, so each stands once
abbrev pub PairsRise : List (ℕ × ℕ) → Type 0
PairsRise [] = Unit {0}
PairsRise (pair ∷ pairs) =
    AllByRecursion (λ later. is_earlier pair later ≡ true) pairs × PairsRise pairs

-- the pairs with this one, which stands behind those that come before it
abbrev pub put_in : ℕ × ℕ → List (ℕ × ℕ) → List (ℕ × ℕ)
put_in new [] = new ∷ []
put_in new (pair ∷ pairs) =
    if is_earlier pair new then pair ∷ put_in new pairs
    else (if is_pair new.0 new.1 pair then pair ∷ pairs else new ∷ pair ∷ pairs)

-- the pairs without the one of two numbers
abbrev pub without_pair : ℕ → ℕ → List (ℕ × ℕ) → List (ℕ × ℕ)
without_pair first second pairs = filter (λ pair. not (is_pair first second pair)) pairs

-- the pairs with another second number
abbrev pub without : ℕ → List (ℕ × ℕ) → List (ℕ × ℕ)
without second pairs = filter (λ pair. not (nat_eq pair.1 second)) pairs

-- the pairs with this first number
abbrev pub pairs_of : ℕ → List (ℕ × ℕ) → List (ℕ × ℕ)
pairs_of first pairs = filter (λ pair. nat_eq pair.0 first) pairs

-- the second numbers of the pairs with this first number
abbrev pub seconds_of : ℕ → List (ℕ × ℕ) → List ℕ
seconds_of first pairs = map (λ pair. pair.1) (pairs_of first pairs)

-- the pairs with one more for each of these numbers, all with the same second number
abbrev pub with_firsts : ℕ → List ℕ → List (ℕ × ℕ) → List (ℕ × ℕ)
with_firsts second [] pairs = pairs
with_firsts second (first ∷ firsts) pairs = with_firsts second firsts (put_in (first, second) pairs)

-- the pairs where these numbers alone are paired with the second one
abbrev pub with_own : ℕ → List ℕ → List (ℕ × ℕ) → List (ℕ × ℕ)
with_own second firsts pairs = with_firsts second firsts (without second pairs)
