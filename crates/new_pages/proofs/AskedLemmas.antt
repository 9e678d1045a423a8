-- What is told of a command that its first rules do not refuse.
use Rattle.std.proofs.Common.{◌≡◌, ℕ, List, Option, Err, sym, ap, subst, ◌∙◌}
use Rattle.site_types.specs.Content.{ContentValue}
use Rattle.site_types.specs.declared.command.Command.{Command}
use Rattle.site_types.specs.declared.refusal.Refusal.{Refusal}
use Rattle.site_types.specs.declared.reply.Reply.{Reply}
use Rattle.site_model.specs.World as worlds
use Rattle.site_model.specs.Step.{rules}
use Rattle.flat_model.specs.declared.change.Change.{Change}
use Rattle.site_part.specs.Plans.{Prepares, HasPlan, quiet_plan}
use Rattle.site_part.specs.declared.fault.Fault.{Fault}
use Rattle.site_part.specs.declared.fault.Fault.TheVariants.{Refused, Memory}
use Rattle.site_part.specs.declared.part.TreePart.{TreePart}
use Rattle.site_part.specs.declared.plan.Plan.{Plan}
use Rattle.site_part.proofs.StepLemmas.{own_refuses}
use Rattle.new_pages.specs.Plans.{PlansBy, IsAsked}

-- the command's own rules refuse a command that is asked for
pub own_refused : {X : Type 0} (kept room : TreePart) (part : worlds.TreePart)
    (desk : Option ContentValue) (now caller : ℕ) (command : Command) →
    IsAsked kept part caller command → (refused : Option Refusal) →
    rules part desk now caller command ≡ refused → (IsRight : X → Type 0) (fault : Fault) →
    PlansBy refused IsRight (Err fault) →
    Prepares part desk now caller command room (Err fault)
own_refused kept room part desk now caller command asked refused own IsRight
    (Refused refusal) is =
    own_refuses part desk now caller command refusal asked.front (own ∙ is)
own_refused kept room part desk now caller command asked refused own IsRight Memory is = tt

-- a plan that was built is the one that was planned
pub planned_is : (command : Command) (room : TreePart) (part : worlds.TreePart)
    (desk : Option ContentValue) (now caller : ℕ) (reply : Reply) (plan : Plan)
    (change meant : Change) → plan ≡ quiet_plan reply change → change ≡ meant →
    HasPlan room part desk now caller command (quiet_plan reply meant) →
    HasPlan room part desk now caller command plan
planned_is command room part desk now caller reply plan change meant is change_is has =
    subst (λ (p : Plan). HasPlan room part desk now caller command p)
    (sym (is ∙ ap (quiet_plan reply) change_is)) has

-- so is one that ends the desks on these pages
pub ending_is : (command : Command) (room : TreePart) (part : worlds.TreePart)
    (desk : Option ContentValue) (now caller : ℕ) (reply : Reply) (shut : List ℕ) (plan : Plan)
    (change meant : Change) → plan ≡ quiet_plan reply change → change ≡ meant →
    HasPlan room part desk now caller command
    (record (quiet_plan reply meant) { shut = shut }) →
    HasPlan room part desk now caller command (record plan { shut = shut })
ending_is command room part desk now caller reply shut plan change meant is change_is has =
    subst (λ (p : Plan). HasPlan room part desk now caller command (record p { shut = shut }))
    (sym (is ∙ ap (quiet_plan reply) change_is)) has
