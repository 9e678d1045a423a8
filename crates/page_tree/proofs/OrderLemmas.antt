-- The laws of the depth-first order of paths, and of other keys that are lists of numbers.
use Rattle.std.proofs.Common.{◌≡◌, ℕ, Bool, true, false, cond, nat_eq, nat_lt, List, [], ◌∷◌, refl, arith}
use Rattle.std.proofs.lemmas.Bool.Decides.{nat_tests}
use Rattle.page_tree.specs.Rows.{comes_before}

-- no path comes before itself
pub comes_before-self : (path : List ℕ) → comes_before path path ≡ false
comes_before-self [] = refl
comes_before-self (x ∷ path) =
    let same : nat_eq x x ≡ true = grind (arith, nat_tests) in rw same (comes_before-self path)

-- one step of two paths, each before the next
before_step : (x y z : ℕ) (p q r : Bool) → (p ≡ true → q ≡ true → r ≡ true) →
    cond (nat_eq x y) p (nat_lt x y) ≡ true → cond (nat_eq y z) q (nat_lt y z) ≡ true →
    cond (nat_eq x z) r (nat_lt x z) ≡ true
before_step x y z p q r h a b = grind (arith, nat_tests)

-- what comes before a path comes before those that the path comes before
pub comes_before-trans : (a b c : List ℕ) → comes_before a b ≡ true → comes_before b c ≡ true →
    comes_before a c ≡ true
comes_before-trans [] [] c h k = cc
comes_before-trans [] (y ∷ b) [] h k = cc
comes_before-trans [] (y ∷ b) (z ∷ c) h k = refl
comes_before-trans (x ∷ a) [] c h k = cc
comes_before-trans (x ∷ a) (y ∷ b) [] h k = cc
comes_before-trans (x ∷ a) (y ∷ b) (z ∷ c) h k = before_step x y z _ _ _ (comes_before-trans a b c) h k

-- of two paths not both come before the other
pub comes_before-not_back : (a b : List ℕ) → comes_before a b ≡ true → comes_before b a ≡ false
comes_before-not_back a b h = by (comes_before b a) refl
  where
    by : (t : Bool) → comes_before b a ≡ t → comes_before b a ≡ false
    by false e = e
    by true e = let self = comes_before-trans a b a h e in let never = comes_before-self a in absurd cc

-- one step of two different paths
either_step : (x y : ℕ) (p q : Bool) → (nat_eq x y ≡ true → p ≡ false → q ≡ true) →
    cond (nat_eq x y) p (nat_lt x y) ≡ false → cond (nat_eq y x) q (nat_lt y x) ≡ true
either_step x y p q h a = grind (arith, nat_tests)

-- of two different paths one comes before the other
pub comes_before-other : (a b : List ℕ) → (a ≡ b → ⊥) → comes_before a b ≡ false → comes_before b a ≡ true
comes_before-other [] [] differ h = absurd (differ refl)
comes_before-other [] (y ∷ b) differ h = cc
comes_before-other (x ∷ a) [] differ h = refl
comes_before-other (x ∷ a) (y ∷ b) differ h =
    either_step x y _ _ (λ same rest. comes_before-other a b (λ e. differ (let one : x ≡ y =
    grind (arith, nat_tests) in cc)) rest) h
