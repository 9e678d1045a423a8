-- A search in a list, element by element, and what it finds.
use Rattle.std.proofs.Common.{◌≡◌, ◌∙◌, ℕ, ◌+◌, ◌<◌, Bool, true, false, cond, nat_eq, ◌||◌, List, [], ◌∷◌, ◌++◌, Option, Some, None, find, length, take, drop, get_or, refl, ap, sym, arith}
use Rattle.std.proofs.lemmas.Bool.Decides.{nat_tests}
use Rattle.std.proofs.lemmas.List.{take_more, take-append-drop}
use Rattle.std.proofs.lemmas.List.Folds.{find-append}
use Rattle.std.specs.List.{list_any}
use Rattle.std.specs.Option.{option_or}

module _ {X : Type 0} (test : X → Bool) (xs : List X) (i : ℕ) (x : X) (none : find test (take i xs) ≡ None)
    (within : i < length xs) (is : x ≡ get_or xs i x) where
  -- the elements so far, and one more
  one_more : take (i + 1) xs ≡ take i xs ++ x ∷ []
  one_more = take_more xs i x within ∙ ap (λ (y : X). take i xs ++ y ∷ []) (sym is)

  -- what is found among them
  found_so_far : find test (take (i + 1) xs) ≡ cond (test x) (Some x) None
  found_so_far = ap (find test) one_more ∙ find-append test (take i xs) (x ∷ []) ∙ ap (λ (o : Option
      X). option_or o (cond (test x) (Some x) None)) none

  -- an element more that fails is not found
  pub find_next : test x ≡ false → find test (take (i + 1) xs) ≡ None
  find_next fails = found_so_far ∙ ap (λ t. cond t (Some x) None) fails

  -- one that passes is what is found
  pub find_here : test x ≡ true → Some x ≡ find test xs
  find_here passes =
      sym (ap (find test) (sym (take-append-drop (i + 1) xs)) ∙ find-append test (take (i + 1) xs)
      (drop (i + 1) xs) ∙ ap (λ (o : Option X). option_or o (find test (drop (i + 1) xs)))
      (found_so_far ∙ ap (λ t. cond t (Some x) None) passes))

-- a number that passes is in no list in which nothing is found
pub find_misses : (test : ℕ → Bool) (id : ℕ) (ids : List ℕ) → test id ≡ true → find test ids ≡ None →
    list_any (λ other. nat_eq other id) ids ≡ false
find_misses test id [] passes none = refl
find_misses test id (x ∷ ids) passes none =
    by (test x) (nat_eq x id) refl refl none (find_misses test id ids passes)
  where
    by : (t u : Bool) → test x ≡ t → nat_eq x id ≡ u → cond t (Some x) (find test ids) ≡ None →
        (find test ids ≡ None → list_any (λ other. nat_eq other id) ids ≡ false) →
        (u || list_any (λ other. nat_eq other id) ids) ≡ false
    by true u e f h more = absurd cc
    by false true e f h more =
        let same : x ≡ id = grind (arith, nat_tests) in
        let never : false ≡ true = sym e ∙ ap test same ∙ passes in absurd cc
    by false false e f h more = more h
