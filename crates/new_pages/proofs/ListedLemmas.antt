-- A page that is looked for in a list of pairs, one after the other.
use Rattle.std.proofs.Common.{◌≡◌, ◌<◌, ◌≤◌, ◌+◌, ℕ, suc, zero, Bool, true, false, nat_eq, List, [], ◌∷◌, length, Some, None, refl, sym, ap, ◌∙◌, arith}
use Rattle.std.specs.Prelude.{drop, get_or}
use Rattle.std.specs.Map.{lookup}
use Rattle.std.proofs.lemmas.List.{drop_all}
use Rattle.std.proofs.lemmas.Bool.Decides.{nat_tests}

-- what a place and those behind it are
drop_here : {X : Type 0} (i : ℕ) (xs : List X) (x : X) → i < length xs → x ≡ get_or xs i x →
    drop i xs ≡ x ∷ drop (suc i) xs
drop_here i [] x within is = let no : ⊥ = omega arith in absurd no
drop_here zero (y ∷ xs) x within is = ap (λ z. z ∷ xs) (sym is)
drop_here (suc i) (y ∷ xs) x within is = drop_here i xs x (omega arith) is

-- the test of two numbers is one from both sides
pub nat_eq-turned : (a b : ℕ) → nat_eq a b ≡ nat_eq b a
nat_eq-turned a b = by (nat_eq a b) (nat_eq b a) refl refl
  where
    by : (s t : Bool) → nat_eq a b ≡ s → nat_eq b a ≡ t → s ≡ t
    by true true x y = refl
    by false false x y = refl
    by true false x y = absurd (grind (arith, nat_tests))
    by false true x y = absurd (grind (arith, nat_tests))

module _ {X : Type 0} (id i : ℕ) (pairs : List (ℕ × X)) (pair : ℕ × X) (within : i < length pairs)
    (here : pair ≡ get_or pairs i pair)
    (so_far : lookup (nat_eq id) (drop i pairs) ≡ lookup (nat_eq id) pairs) where
  -- a pair with another id is passed
  pub listed_later : false ≡ nat_eq pair.0 id →
      lookup (nat_eq id) (drop (i + 1) pairs) ≡ lookup (nat_eq id) pairs
  listed_later other =
      let up : i + 1 ≡ suc i = omega arith in
      let differs : nat_eq id pair.0 ≡ false = nat_eq-turned id pair.0 ∙ sym other in
      let first : lookup (nat_eq id) (pair ∷ drop (suc i) pairs)
      ≡ lookup (nat_eq id) (drop (suc i) pairs) = rw differs refl in
      ap (λ j. lookup (nat_eq id) (drop j pairs)) up
      ∙ (sym first
      ∙ (ap (lookup (nat_eq id)) (sym (drop_here i pairs pair within here)) ∙ so_far))

  -- a pair with the id is the one
  pub listed_here : true ≡ nat_eq pair.0 id → Some pair.1 ≡ lookup (nat_eq id) pairs
  listed_here same =
      let equal : nat_eq id pair.0 ≡ true = nat_eq-turned id pair.0 ∙ sym same in
      let first : lookup (nat_eq id) (pair ∷ drop (suc i) pairs) ≡ Some pair.1 = rw equal refl in
      sym first ∙ (ap (lookup (nat_eq id)) (sym (drop_here i pairs pair within here)) ∙ so_far)

-- behind the last pair none is listed
pub listed_nowhere : {X : Type 0} (id i : ℕ) (pairs : List (ℕ × X)) → length pairs ≤ i →
    lookup (nat_eq id) (drop i pairs) ≡ lookup (nat_eq id) pairs →
    None ≡ lookup (nat_eq id) pairs
listed_nowhere id i pairs past so_far =
    ap (lookup (nat_eq id)) (sym (drop_all i pairs past)) ∙ so_far
