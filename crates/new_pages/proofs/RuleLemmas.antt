-- Rules that are tried one after the other.
use Rattle.std.proofs.Common.{◌≡◌, List, [], ◌∷◌, ◌++◌, Option, Some, None, refl}
use Rattle.site_types.specs.declared.refusal.Refusal.{Refusal}
use Rattle.site_model.specs.Rules.{first_of}

-- the first of some rules that refuses is the first of all
pub front_refused : (front back : List (Option Refusal)) (refusal : Refusal) →
    first_of front ≡ Some refusal → first_of (front ++ back) ≡ Some refusal
front_refused [] back refusal is = absurd (cc)
front_refused (Some x ∷ front) back refusal is = is
front_refused (None ∷ front) back refusal is = front_refused front back refusal is

-- where none of some rules refuses, the others are left
pub front_passed : (front back : List (Option Refusal)) → first_of front ≡ None →
    first_of (front ++ back) ≡ first_of back
front_passed [] back is = refl
front_passed (Some x ∷ front) back is = absurd (cc)
front_passed (None ∷ front) back is = front_passed front back is
