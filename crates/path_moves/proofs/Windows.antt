-- Lists taken apart at places: the elements between two places, and those of them that fail a test.
use Rattle.std.proofs.Common.{◌≡◌, ◌⊎◌, inl, inr, ℕ, suc, ◌+◌, ◌-◌, ◌<◌, ◌≤◌, min, Bool, true, false, not, List, [], ◌∷◌, ◌++◌, Some, filter, length, take, drop, slice_get, refl, ap, sym, ◌∙◌, subst, arith, length-append}
use Prim.Native.Nat.{zero}
use Rattle.std.specs.List.{AllByRecursion}
use Rattle.std.proofs.lemmas.Bool.{cases_lt}
use Rattle.std.proofs.lemmas.List.{append-nil, drop-drop, take-append-drop, length-take-le}
use Rattle.std.proofs.lemmas.List.Elements.{filter-append}
use Rattle.tree_rows.specs.Subtree.{last_of}
use Rattle.page_store.proofs.AllLemmas.{All-weaker}
use Rattle.page_store.proofs.RangeLemmas.{drop_at_place}
use Rattle.tree_rows.proofs.Lists.{all_parts, filter_all, filter_none, last_of-push}

module _ {X : Type 0} where
  -- the elements from one place up to another
  abbrev pub between : ℕ → ℕ → List X → List X
  between i k xs = take (k - i) (drop i xs)

  -- the elements that do not pass the test
  abbrev pub failing : (X → Bool) → List X → List X
  failing test xs = filter (λ x. not (test x)) xs

  -- nothing is taken from nothing
  take_nil : (n : ℕ) → take {A = X} n [] ≡ []
  take_nil zero = refl
  take_nil (suc n) = refl

  -- the first elements, taken apart at a place
  pub take_split : (j k : ℕ) (xs : List X) → j ≤ k →
      take k xs ≡ take j xs ++ take (k - j) (drop j xs)
  take_split zero k xs le = let none : k - 0 ≡ k = omega arith in rw none refl
  take_split (suc j) zero xs le = absurd (omega arith)
  take_split (suc j) (suc k) [] le = sym (take_nil (suc k - suc j))
  take_split (suc j) (suc k) (x ∷ xs) le =
      let less : suc k - suc j ≡ k - j = omega arith in
      rw less (ap (λ ys. x ∷ ys) (take_split j k xs (omega arith)))

  -- a window taken apart at a place
  pub between_split : (i j k : ℕ) (xs : List X) → i ≤ j → j ≤ k →
      between i k xs ≡ between i j xs ++ between j k xs
  between_split i j k xs low high =
      let same : i + (j - i) ≡ j = omega arith in
      let less : k - i - (j - i) ≡ k - j = omega arith in
      take_split (j - i) (k - i) (drop i xs) (omega arith)
      ∙ rw (drop-drop (j - i) i xs, same, less) refl

  -- the elements behind a place, taken apart at a later one
  pub drop_split : (j k : ℕ) (xs : List X) → j ≤ k → drop j xs ≡ between j k xs ++ drop k xs
  drop_split j k xs le =
      let same : j + (k - j) ≡ k = omega arith in
      sym (take-append-drop (k - j) (drop j xs))
      ∙ ap (λ ys. take (k - j) (drop j xs) ++ ys) (drop-drop (k - j) j xs
      ∙ ap (λ n. drop n xs) same)

  -- a list taken apart at two places
  pub two_splits : (j k : ℕ) (xs : List X) → j ≤ k →
      xs ≡ take j xs ++ (between j k xs ++ drop k xs)
  two_splits j k xs le =
      sym (take-append-drop j xs) ∙ ap (λ ys. take j xs ++ ys) (drop_split j k xs le)

  -- the first element of a window
  pub between_next : (i k : ℕ) (xs : List X) (x : X) → slice_get xs i ≡ Some x → i < k →
      between i k xs ≡ x ∷ between (suc i) k xs
  between_next i k xs x at low =
      let one : k - i ≡ suc (k - suc i) = omega arith in
      ap (take (k - i)) (drop_at_place i xs x at)
      ∙ ap (λ n. take n (x ∷ drop (suc i) xs)) one

  -- nothing stands between a place and an earlier one
  pub between_none : (i k : ℕ) (xs : List X) → k ≤ i → between i k xs ≡ []
  between_none i k xs high = let none : k - i ≡ 0 = omega arith in rw none refl

  -- the last element of a window
  pub between_last : (i l : ℕ) (xs : List X) (x : X) → slice_get xs l ≡ Some x → i ≤ l →
      between i (suc l) xs ≡ between i l xs ++ x ∷ []
  between_last i l xs x at low =
      between_split i l (suc l) xs low (omega arith)
      ∙ ap (λ ys. between i l xs ++ ys) (between_next l (suc l) xs x at (omega arith)
      ∙ ap (λ ys. x ∷ ys) (between_none (suc l) (suc l) xs (omega arith)))

  -- the first element behind the first ones
  pub take_last : (l : ℕ) (xs : List X) (x : X) → slice_get xs l ≡ Some x →
      take (suc l) xs ≡ take l xs ++ x ∷ []
  take_last l xs x at =
      take_split l (suc l) xs (omega arith)
      ∙ ap (λ ys. take l xs ++ ys) (between_next l (suc l) xs x at (omega arith)
      ∙ ap (λ ys. x ∷ ys) (between_none (suc l) (suc l) xs (omega arith)))

  -- what holds in a window holds in a narrower one
  pub All-narrower : (P : X → Type 0) (i a b k : ℕ) (xs : List X) → i ≤ a → a ≤ b → b ≤ k →
      AllByRecursion P (between i k xs) → AllByRecursion P (between a b xs)
  All-narrower P i a b k xs low some high all =
      let first = subst (AllByRecursion P) (between_split i a k xs low (omega arith)) all in
      let late = (all_parts P _ _ first).1 in
      let second = subst (AllByRecursion P) (between_split a b k xs some high) late in
      (all_parts P _ _ second).0

  -- what holds of the first elements holds in a window among them
  pub All-front : (P : X → Type 0) (a b k : ℕ) (xs : List X) → a ≤ b → b ≤ k →
      AllByRecursion P (take k xs) → AllByRecursion P (between a b xs)
  All-front P a b k xs some high all =
      let late = (all_parts P _ _ (subst (AllByRecursion P)
      (take_split a k xs (omega arith)) all)).1 in
      (all_parts P _ _ (subst (AllByRecursion P) (between_split a b k xs some high) late)).0

  -- what holds of the elements behind a place holds in a window behind it
  pub All-behind : (P : X → Type 0) (j a b : ℕ) (xs : List X) → j ≤ a → a ≤ b →
      AllByRecursion P (drop j xs) → AllByRecursion P (between a b xs)
  All-behind P j a b xs low some all =
      let late = (all_parts P _ _ (subst (AllByRecursion P) (drop_split j a xs low) all)).1 in
      (all_parts P _ _ (subst (AllByRecursion P) (drop_split a b xs some) late)).0

  -- A test passes in one window, and nowhere else.
  pub record Passes (test : X → Bool) (p n : ℕ) (xs : List X) : Type 0 where
    pub front : AllByRecursion (λ x. test x ≡ false) (take p xs)
    pub inside : AllByRecursion (λ x. test x ≡ true) (between p (p + n) xs)
    pub behind : AllByRecursion (λ x. test x ≡ false) (drop (p + n) xs)

  module _ (test : X → Bool) (p n : ℕ) (xs : List X) (on : Passes test p n xs) where
    -- those that fail among ones that all fail are all
    failing_all : (ys : List X) → AllByRecursion (λ x. test x ≡ false) ys → failing test ys ≡ ys
    failing_all ys all = filter_all (λ x. not (test x)) ys
        (All-weaker (λ x. test x ≡ false) (λ x. not (test x) ≡ true) (λ x e. ap not e) ys all)

    -- and there are none among ones that all pass
    failing_none : (ys : List X) → AllByRecursion (λ x. test x ≡ true) ys → failing test ys ≡ []
    failing_none ys all = filter_none (λ x. not (test x)) ys
        (All-weaker (λ x. test x ≡ true) (λ x. not (test x) ≡ false) (λ x e. ap not e) ys all)

    -- an element outside the window fails
    pub fails_outside : (k : ℕ) (x : X) → slice_get xs k ≡ Some x → (k < p) ⊎ (p + n ≤ k) →
        test x ≡ false
    fails_outside k x at (inl low) =
        let rows = subst (AllByRecursion (λ x. test x ≡ false))
        (between_next k (suc k) xs x at (omega arith))
        (All-front (λ x. test x ≡ false) k (suc k) p xs (omega arith) (omega arith) on.front) in
        rows.0
    fails_outside k x at (inr high) =
        let rows = subst (AllByRecursion (λ x. test x ≡ false))
        (between_next k (suc k) xs x at (omega arith))
        (All-behind (λ x. test x ≡ false) (p + n) k (suc k) xs high (omega arith) on.behind) in
        rows.0

    -- one inside passes
    pub passes_inside : (k : ℕ) (x : X) → slice_get xs k ≡ Some x → p ≤ k → k < p + n →
        test x ≡ true
    passes_inside k x at low high =
        let rows = subst (AllByRecursion (λ x. test x ≡ true))
        (between_next k (suc k) xs x at (omega arith))
        (All-narrower (λ x. test x ≡ true) p k (suc k) (p + n) xs low (omega arith) (omega arith)
        on.inside) in
        rows.0

    -- nothing fails within the window
    pub none_fails : (a b : ℕ) → p ≤ a → b ≤ p + n → failing test (between a b xs) ≡ []
    none_fails a b low high = elim (cases_lt a b) [
      | inl some ↦ failing_none (between a b xs)
          (All-narrower (λ x. test x ≡ true) p a b (p + n) xs low (omega arith) high on.inside)
      | inr none ↦ ap (failing test) (between_none a b xs none)
    ]

    -- how many fail before a place
    pub failing_before : (at : ℕ) → at ≤ length xs →
        length (failing test (take at xs)) ≡ at - min n (at - p)
    failing_before at within = elim (cases_lt p at) [
      | inr low ↦
          let all = (all_parts (λ x. test x ≡ false) _ _
          (subst (AllByRecursion (λ x. test x ≡ false)) (take_split at p xs low) on.front)).0 in
          let long = length-take-le at xs within in
          rw (failing_all (take at xs) all) (omega arith)
      | inl high ↦ elim (cases_lt (p + n) at) [
        | inr inside ↦
            let long = length-take-le p xs (omega arith) in
            let parts = filter-append (λ x. not (test x)) (take p xs) (between p at xs) in
            rw (
              take_split p at xs (omega arith),
              parts,
              failing_all (take p xs) on.front,
              none_fails p at (omega arith) inside,
              append-nil (take p xs),
            ) (omega arith)
        | inl past ↦
            let long = length-take-le p xs (omega arith) in
            let long_at = length-take-le at xs within in
            let long_pn = length-take-le (p + n) xs (omega arith) in
            let end = between (p + n) at xs in
            let all = All-behind (λ x. test x ≡ false) (p + n) (p + n) at xs (omega arith)
            (omega arith) on.behind in
            let whole = ap length (take_split (p + n) at xs (omega arith))
            ∙ length-append (take (p + n) xs) end in
            rw (
              take_split p at xs (omega arith),
              between_split p (p + n) at xs (omega arith) (omega arith),
              filter-append (λ x. not (test x)) (take p xs) (between p (p + n) xs ++ end),
              filter-append (λ x. not (test x)) (between p (p + n) xs) end,
              failing_all (take p xs) on.front,
              none_fails p (p + n) (omega arith) (omega arith),
              failing_all end all,
              length-append (take p xs) end,
            ) (omega arith)
      ]
    ]

    -- the last of those that fail up to a place, where it is known which that is
    pub last_failing : (a l e : ℕ) (x : X) → a ≤ l → l < e → slice_get xs l ≡ Some x →
        test x ≡ false → failing test (between (suc l) e xs) ≡ [] →
        last_of (failing test (between a e xs)) ≡ Some x
    last_failing a l e x low high at fails none =
        let parts = between_split a (suc l) e xs (omega arith) high
        ∙ ap (λ ys. ys ++ between (suc l) e xs) (between_last a l xs x at low) in
        let one : failing test (x ∷ []) ≡ x ∷ [] = rw fails refl in
        rw (
          parts,
          filter-append (λ x. not (test x)) (between a l xs ++ x ∷ []) (between (suc l) e xs),
          none,
          append-nil (failing test (between a l xs ++ x ∷ [])),
          filter-append (λ x. not (test x)) (between a l xs) (x ∷ []),
          one,
        ) (last_of-push (failing test (between a l xs)) x)
