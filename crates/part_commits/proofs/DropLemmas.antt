-- Items of pages that are taken out page by page: what is left are the items of all other pages.
use Rattle.std.proofs.Common.{◌≡◌, ◌<◌, ◌≤◌, ◌+◌, ℕ, Bool, true, false, not, cond, ◌||◌, nat_eq, List, [], ◌∷◌, length, refl, sym, ap, ◌∙◌, arith}
use Rattle.std.specs.Prelude.{drop, filter, get_or}
use Rattle.std.specs.List.{list_any}
use Rattle.std.proofs.lemmas.List.{drop_all, drop_more}
use Rattle.std.proofs.lemmas.Bool.Decides.{nat_tests}
use Rattle.flat_model.specs.Made.{of_others}
use Rattle.flat_model.proofs.ListLemmas.{none_out}

-- the test of two numbers is one from both sides
nat_eq-turned : (a b : ℕ) → nat_eq a b ≡ nat_eq b a
nat_eq-turned a b = by (nat_eq a b) (nat_eq b a) refl refl
  where
    by : (s t : Bool) → nat_eq a b ≡ s → nat_eq b a ≡ t → s ≡ t
    by true true x y = refl
    by false false x y = refl
    by true false x y = absurd (grind (arith, nat_tests))
    by false true x y = absurd (grind (arith, nat_tests))

module _ {X : Type 0} (page : X → ℕ) where
  -- the items of all pages but one
  abbrev pub without_one : ℕ → List X → List X
  without_one id items = filter (λ item. not (nat_eq (page item) id)) items

  -- first those of one page go, and then those of the others
  first_gone : (id : ℕ) (ids : List ℕ) (items : List X) →
      of_others page ids (without_one id items) ≡ of_others page (id ∷ ids) items
  first_gone id ids [] = refl
  first_gone id ids (item ∷ items) =
      rw (nat_eq-turned id (page item)) (by (nat_eq (page item) id) (first_gone id ids items))
    where
      by : (t : Bool) → of_others page ids (without_one id items) ≡ of_others page (id ∷ ids) items →
          of_others page ids (cond (not t) (item ∷ without_one id items) (without_one id items))
          ≡ cond (not (t || list_any (λ id. nat_eq id (page item)) ids))
          (item ∷ of_others page (id ∷ ids) items) (of_others page (id ∷ ids) items)
      by true more = more
      by false more = inner (list_any (λ id. nat_eq id (page item)) ids)
        where
          inner : (t : Bool) →
              cond (not t) (item ∷ of_others page ids (without_one id items))
              (of_others page ids (without_one id items))
              ≡ cond (not t) (item ∷ of_others page (id ∷ ids) items) (of_others page (id ∷ ids) items)
          inner true = more
          inner false = ap (λ rest. item ∷ rest) more

  module _ (ids : List ℕ) (i : ℕ) (items all : List X)
      (so_far : of_others page (drop i ids) items ≡ all) where
    -- one page more
    pub one_gone : (id : ℕ) → i < length ids → id ≡ get_or ids i 0 →
        of_others page (drop (i + 1) ids) (without_one id items) ≡ all
    one_gone id within is =
        ap (λ n. of_others page (drop (i + 1) ids) (without_one n items)) is
        ∙ (first_gone (get_or ids i 0) (drop (i + 1) ids) items
        ∙ (ap (λ list. of_others page list items) (sym (drop_more ids i 0 within)) ∙ so_far))

    -- behind the last page
    pub all_gone : length ids ≤ i → items ≡ all
    all_gone past =
        sym (none_out page items)
        ∙ (ap (λ list. of_others page list items) (sym (drop_all i ids past)) ∙ so_far)
