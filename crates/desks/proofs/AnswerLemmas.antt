-- What an answer of a search says.
use Rattle.std.proofs.Common.{◌≡◌, ℕ, Bool, true, false, cond, Option, Some, None, refl}
use Rattle.std.specs.Option.{is_some}

-- a place that is told is the one, and something stands there
pub told_some : (t : Bool) (place one : ℕ) →
    ◌≡◌ {A = Option ℕ} (Some place) (cond t (Some one) None) → (t ≡ true) × (place ≡ one)
told_some true place one told = (refl, cc)
told_some false place one told = cc

-- where no place is told, nothing is there
pub told_none : (t : Bool) (one : ℕ) → ◌≡◌ {A = Option ℕ} None (cond t (Some one) None) → t ≡ false
told_none true one told = cc
told_none false one told = refl

module _ {X : Type 0} where
  -- what is not some is none
  pub not_some : (o : Option X) → is_some o ≡ false → o ≡ None
  not_some None is = refl
  not_some (Some x) is = cc

  -- a place is told where something stands there
  pub tells_some : (o : Option X) (x : X) (place one : ℕ) → Some x ≡ o → place ≡ one →
      ◌≡◌ {A = Option ℕ} (Some place) (cond (is_some o) (Some one) None)
  tells_some None x place one there at = cc
  tells_some (Some y) x place one there at = cc

  -- and none is told where nothing does
  pub tells_none : (o : Option X) (one : ℕ) → None ≡ o →
      ◌≡◌ {A = Option ℕ} None (cond (is_some o) (Some one) None)
  tells_none None one none = refl
  tells_none (Some y) one none = cc
