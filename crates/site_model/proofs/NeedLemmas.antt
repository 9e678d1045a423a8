-- Of needs that are met, the first is met alone.
use Rattle.std.proofs.Common.{◌≡◌, ℕ, Bool, true, false, cond, List, [], ◌∷◌, Option, Some, None, refl}
use Rattle.std.specs.Option.{option_map}
use Rattle.site_types.specs.declared.refusal.Refusal.TheVariants.{Denied}
use Rattle.site_model.specs.World.{TreePart}
use Rattle.site_model.specs.Rights.{is_superuser}
use Rattle.site_model.specs.Needs.{first_unmet, denied}

-- whoever is denied none of these needs is not denied the first of them
pub first_need : (part : TreePart) (user : ℕ) (need : Option ℕ) (needs : List (Option ℕ)) →
    denied part user (need ∷ needs) ≡ None → denied part user (need ∷ []) ≡ None
first_need part user need needs none = choice (is_superuser part.users user) need none
  where
    choice : (super : Bool) (first : Option ℕ) →
        option_map Denied (cond super None (first_unmet (first ∷ needs))) ≡ None →
        option_map Denied (cond super None (first_unmet (first ∷ []))) ≡ None
    choice true first h = refl
    choice false None h = refl
    choice false (Some number) h = absurd (cc)
