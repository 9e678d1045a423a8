-- What holds of rows holds of them with one more in its place, if it holds of that one.
use Rattle.std.proofs.Common.{◌≡◌, ℕ, List, [], ◌∷◌, Bool, true, false, cond}
use Rattle.matchit.specs.Rows.{RowsOf, comes_before}
use Rattle.matchit.specs.Order.{placed}
use Rattle.api_routes.proofs.Taking.{takes, IsSimple, AllSimple, AllLead, NoneTakes}

module _ {K : Type 0} where
  -- simple rows are simple with a simple one more
  pub placed-simple : (p : List ℕ) (k : K) (rs : RowsOf K) → IsSimple p → AllSimple rs →
      AllSimple (placed (p, k) rs)
  placed-simple p k [] simple all = (simple, tt)
  placed-simple p k ((t, j) ∷ rest) simple all =
      by (comes_before p t) (placed-simple p k rest simple all.1)
    where
      by : (v : Bool) → AllSimple {K = K} (placed (p, k) rest) →
          AllSimple {K = K} (cond v ((p, k) ∷ (t, j) ∷ rest) ((t, j) ∷ placed (p, k) rest))
      by true later = (simple, all)
      by false later = (all.0, later)

  -- rows that lead where they should do so with one more that does
  pub placed-lead : (P : K → Type 0) (path p : List ℕ) (k : K) (rs : RowsOf K) →
      (takes p path ≡ true → P k) → AllLead P path rs → AllLead P path (placed (p, k) rs)
  placed-lead P path p k [] leads all = (leads, tt)
  placed-lead P path p k ((t, j) ∷ rest) leads all =
      by (comes_before p t) (placed-lead P path p k rest leads all.1)
    where
      by : (v : Bool) → AllLead {K = K} P path (placed (p, k) rest) →
          AllLead {K = K} P path (cond v ((p, k) ∷ (t, j) ∷ rest) ((t, j) ∷ placed (p, k) rest))
      by true later = (leads, all)
      by false later = (all.0, later)

  -- if none of the rows with one more takes a path, that one does not, nor does any of the others
  pub placed-none : (path p : List ℕ) (k : K) (rs : RowsOf K) → NoneTakes path (placed (p, k) rs) →
      (takes p path ≡ true → ⊥) × NoneTakes path rs
  placed-none path p k [] none = (none.0, tt)
  placed-none path p k ((t, j) ∷ rest) none =
      by (comes_before p t) (λ all. placed-none path p k rest all) none
    where
      by : (v : Bool) →
          (NoneTakes {K = K} path (placed (p, k) rest) →
          (takes p path ≡ true → ⊥) × NoneTakes {K = K} path rest) →
          NoneTakes {K = K} path (cond v ((p, k) ∷ (t, j) ∷ rest) ((t, j) ∷ placed (p, k) rest)) →
          (takes p path ≡ true → ⊥) × NoneTakes {K = K} path ((t, j) ∷ rest)
      by true later all = (all.0, all.1)
      by false later all = ((later all.1).0, (all.0, (later all.1).1))
