-- What is kept of pages, as pages are taken out one after another.
use Rattle.std.proofs.Common.{◌≡◌, ℕ, ◌+◌, ◌<◌, Bool, true, false, cond, ◌||◌, nat_eq, List, [], ◌∷◌, ◌++◌, Option, None, length, take, get_or, refl, ap, sym, ◌∙◌}
use Rattle.std.proofs.lemmas.List.{take_more}
use Rattle.std.proofs.lemmas.List.Folds.{list_any-append}
use Rattle.std.specs.List.{list_any}
use Rattle.page_store.specs.declared.stored.StoredRow.{StoredRow}

-- a test of one element
one_any : (p : ℕ → Bool) (x : ℕ) → list_any p (x ∷ []) ≡ p x
one_any p x = by (p x)
  where
    by : (t : Bool) → (t || false) ≡ t
    by true = refl
    by false = refl

-- one more element may pass a test
any_more : (p : ℕ → Bool) (ids : List ℕ) (i id : ℕ) → i < length ids → id ≡ get_or ids i id →
    list_any p (take (i + 1) ids) ≡ (list_any p (take i ids) || p id)
any_more p ids i id within is =
    ap (list_any p) (take_more ids i id within ∙ ap (λ (x : ℕ). take i ids ++ x ∷ []) (sym is))
    ∙ list_any-append p (take i ids) (id ∷ []) ∙ ap (λ t. list_any p (take i ids) || t) (one_any p id)

module _ (ids : List ℕ) (i id : ℕ) (within : i < length ids) (is : id ≡ get_or ids i id)
    (old mid : ℕ → Option StoredRow) (before : (q : ℕ) → mid q ≡ cond (list_any (λ taken. nat_eq taken q)
    (take i ids)) None (old q)) where
  -- what is kept, without one page more
  pub rows_taken : (later : ℕ → Option StoredRow) →
      ((q : ℕ) → later q ≡ cond (nat_eq id q) None (mid q)) → (q : ℕ) →
      later q ≡ cond (list_any (λ taken. nat_eq taken q) (take (i + 1) ids)) None (old q)
  rows_taken later takes q =
      takes q ∙ ap (cond (nat_eq id q) None) (before q)
      ∙ by (nat_eq id q) (list_any (λ taken. nat_eq taken q) (take i ids))
      ∙ ap (λ t. cond t None (old q)) (sym (any_more (λ taken. nat_eq taken q) ids i id within is))
    where
      by : (t u : Bool) → cond t None (cond u None (old q)) ≡ cond (u || t) None (old q)
      by true true = refl
      by true false = refl
      by false true = refl
      by false false = refl
