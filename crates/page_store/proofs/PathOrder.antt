-- The laws of the depth-first order of paths, and of paths that begin with others.
use Rattle.std.proofs.Common.{◌≡◌, ℕ, Bool, true, false, cond, nat_eq, nat_lt, List, [], ◌∷◌, ◌++◌, ◌&&◌, ◌↔◌, IsTrue, refl, sym, arith, rules}
use Rattle.std.proofs.lemmas.Bool.Decides.{nat_tests}
use Rattle.std.specs.declared.cmp.Ordering.{Ordering}
use Rattle.std.specs.declared.cmp.Ordering.TheVariants.{Less, Equal, Greater}
use Rattle.std.specs.Ordering.{nat_cmp, is_lt, MatchOrdering}
use Rattle.std.proofs.lemmas.Cmp.{same_from_slice_cmp}
use Rattle.std.specs.Cmp.Lexicographic.{slice_cmp}
use Rattle.page_tree.specs.Rows.{comes_before}
use Rattle.step_path.specs.Path.{BeginsWith}
use Rattle.page_store.specs.Search.{begins}
pub use Rattle.page_tree.proofs.OrderLemmas.{comes_before-self, comes_before-trans}
pub use Rattle.page_tree.proofs.OrderLemmas.{comes_before-not_back, comes_before-other}

-- true is true
true_is : IsTrue true
true_is = search rules

-- false is not true
false_is_not : IsTrue false → ⊥
false_is_not h = cc

-- a path begins with itself
pub begins-self : (path : List ℕ) → begins path path ≡ true
begins-self [] = refl
begins-self (x ∷ path) =
    let same : nat_eq x x ≡ true = grind (arith, nat_tests) in rw (same, begins-self path) refl

-- one step of paths between two that begin alike
between_step : (x y z : ℕ) (p q r s : Bool) → (p ≡ true → q ≡ true → r ≡ true → s ≡ true) →
    cond (nat_eq x y) p (nat_lt x y) ≡ true → cond (nat_eq y z) q (nat_lt y z) ≡ true →
    nat_eq x z && r ≡ true → nat_eq x y && s ≡ true
between_step x y z p q r s h a b c = grind (arith, nat_tests)

-- what comes between a path and one below it is below it too
pub begins-between : (path a b : List ℕ) → comes_before path a ≡ true → comes_before a b ≡ true →
    begins path b ≡ true → begins path a ≡ true
begins-between [] a b h k l = refl
begins-between (x ∷ path) [] b h k l = cc
begins-between (x ∷ path) (y ∷ a) [] h k l = cc
begins-between (x ∷ path) (y ∷ a) (z ∷ b) h k l = between_step x y z _ _ _ _ (begins-between path a b) h k l

-- what begins with a path has that path in front
pub BeginsWith-begins : (path whole : List ℕ) → begins path whole ≡ true → BeginsWith path whole
BeginsWith-begins [] whole h = (whole, refl)
BeginsWith-begins (x ∷ path) [] h = absurd cc
BeginsWith-begins (x ∷ path) (y ∷ whole) h =
    let one : x ≡ y = grind (arith, nat_tests) in
    let more : begins path whole ≡ true = grind (arith, nat_tests) in
    let rest = BeginsWith-begins path whole more in
    (rest.0, (let e = rest.1 in cc))

-- what has a path in front begins with it
pub begins-BeginsWith : (path whole : List ℕ) → BeginsWith path whole → begins path whole ≡ true
begins-BeginsWith path whole h = rw (← h.1) (by path h.0)
  where
    by : (path rest : List ℕ) → begins path (path ++ rest) ≡ true
    by [] rest = refl
    by (x ∷ path) rest = let same : nat_eq x x ≡ true = grind (arith, nat_tests) in
        rw (same, by path rest) refl

-- a comparison that answers less says that the first comes before the second
pub is_lt-path_cmp : (a b : List ℕ) (o : Ordering) → o ≡ slice_cmp nat_cmp a b → is_lt o ≡ comes_before a b
is_lt-path_cmp a b o e =
    same_from_slice_cmp nat_cmp is_lt comes_before refl (λ y ys. refl) (λ x xs. refl) step a b o e
  where
    step : (x y : ℕ) (xs ys : List ℕ) (o : Ordering) → o ≡ nat_cmp x y →
        MatchOrdering o (comes_before (x ∷ xs) (y ∷ ys) ≡ true) (comes_before (x ∷ xs) (y ∷ ys) ≡
        comes_before xs ys) (comes_before (x ∷ xs) (y ∷ ys) ≡ false)
    step x y xs ys Less e = grind (arith, nat_tests)
    step x y xs ys Equal e = grind (arith, nat_tests)
    step x y xs ys Greater e = grind (arith, nat_tests)

-- a test of whether one path begins with another answers as `begins` does
pub begins-from_test : (path whole : List ℕ) (r : Bool) → (IsTrue r ↔ BeginsWith path whole) →
    r ≡ begins path whole
begins-from_test path whole true h = sym (begins-BeginsWith path whole (h.0 true_is))
begins-from_test path whole false h = by (begins path whole) refl
  where
    by : (t : Bool) → begins path whole ≡ t → false ≡ begins path whole
    by true e = absurd (false_is_not (h.1 (BeginsWith-begins path whole e)))
    by false e = sym e
