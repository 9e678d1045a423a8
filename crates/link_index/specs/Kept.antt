-- How pairs are kept: in both directions, each in its order.
use Rattle.std.specs.Prelude.{◌≡◌, ℕ, Bool, false, if◌then◌else◌, List, [], ◌∷◌, suc, Option, None, Some}
use Rattle.link_index.specs.Pairs.{has_pair, PairsRise}

-- The pairs forward rise, those backward rise, and they are each other's turned round.
pub record AreTurned (forward : List (ℕ × ℕ)) (backward : List (ℕ × ℕ)) : Type 0 where
  pub forward_rise : PairsRise forward
  pub backward_rise : PairsRise backward
  pub turned : (first second : ℕ) → has_pair second first backward ≡ has_pair first second forward

-- how many pairs at the front pass the test
abbrev pub leading : (ℕ × ℕ → Bool) → List (ℕ × ℕ) → ℕ
leading test [] = 0
leading test (pair ∷ pairs) = if test pair then suc (leading test pairs) else 0

-- whether there is a pair that passes the test
abbrev pub passes : (ℕ × ℕ → Bool) → Option (ℕ × ℕ) → Bool
passes test None = false
passes test (Some pair) = test pair

-- the second number of the first pair, if there is one
abbrev pub first_second : List (ℕ × ℕ) → Option ℕ
first_second [] = None
first_second (pair ∷ pairs) = Some pair.1
