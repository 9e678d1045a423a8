-- A step is its rules and its effect, with the desks that end.
use Rattle.std.proofs.Common.{◌≡◌, ℕ, [], ◌∷◌, Option, refl}
use Rattle.site_types.specs.Content.{ContentValue}
use Rattle.site_types.specs.declared.command.Command.{Command}
use Rattle.site_model.specs.World.{TreePart}
use Rattle.site_model.specs.Rules.{first_of}
use Rattle.site_model.specs.Front.{front_rules}
use Rattle.site_model.specs.Desks.{desk_page, settled}
use Rattle.site_model.specs.Step.{rules, unless_refused, step_by}
use Rattle.site_model.specs.Step as steps

-- A step is its rules and its effect, with the desks that end.
pub step_is_settled : (part : TreePart) (desk : Option ContentValue) (now caller : ℕ)
    (command : Command) →
    step_by part desk now caller command
    ≡ unless_refused
    (first_of (front_rules part caller command ∷ rules part desk now caller command ∷ []))
    (settled caller (desk_page command) (steps.effect part desk now caller command))
unfolding step_by
step_is_settled part desk now caller command = refl
