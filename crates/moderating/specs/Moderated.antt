-- What is planned of tasks, workflows and moderations.
use Rattle.std.specs.Prelude.{◌≡◌, ℕ, ◌≤◌, Bool, false, not, max, [], Option, Some, None, Result, Ok, Err}
use Rattle.site_types.specs.declared.body.Body.{Body}
use Rattle.site_types.specs.declared.moderation.Moderation.{Moderation}
use Rattle.site_types.specs.declared.reply.Reply.{Reply}
use Rattle.site_types.specs.declared.reply.Reply.TheVariants.{Moderated}
use Rattle.site_model.specs.World as worlds
use Rattle.site_model.specs.LosingLaws.{desks_lost_with}
use Rattle.site_model.specs.Rules.{is_given}
use Rattle.flat_model.specs.Single.{flow_change, body_change}
use Rattle.flat_model.specs.declared.change.FlowChange.{FlowChange}
use Rattle.site_part.specs.Plans.{pages_of}
use Rattle.site_part.specs.declared.fault.Fault.{Fault}
use Rattle.site_part.specs.declared.fault.Fault.TheVariants.{Memory}
use Rattle.site_part.specs.declared.part.TreePart.{TreePart}
use Rattle.site_part.specs.declared.plan.Plan.{Plan}
use Rattle.moderating.specs.Plans.{ending_plan}

-- A plan with this reply, which opens and ends no desk, and changes tasks and workflows alone: room
-- was made for one more of each.
pub record IsFlowPlan (before after : TreePart) (now : ℕ) (reply : Reply) (flows : FlowChange)
    (plan : Plan) : Type 0 where
  pub plan_is : plan
      ≡ ending_plan reply []
      (flow_change flows (max before.time now) before.next_page before.next_revision)
  pub room : 1 ≤ after.flows.spare

-- such a plan, unless memory ran out
abbrev pub ReadiesFlow : TreePart → TreePart → ℕ → Reply → FlowChange → Result Plan Fault → Type 0
ReadiesFlow before after now reply flows (Ok plan) = IsFlowPlan before after now reply flows plan
ReadiesFlow before after now reply flows (Err fault) = fault ≡ Memory

-- whether a workflow is named that is not there, where this is the next id
abbrev pub names_none : ℕ → Option ℕ → Bool
names_none next None = false
names_none next (Some id) = not (is_given next id)

-- what is kept of a page to which a workflow, or none, is assigned
abbrev pub assigned_body : Option ℕ → Body → Body
assigned_body workflow body = record body { workflow = workflow }

-- The plan that gives a page these fields and this moderation: the desk on the page ends where it
-- does not stay with that.
abbrev pub moderated_plan : worlds.TreePart → ℕ → Body → Moderation → ℕ → ℕ → ℕ → Plan
moderated_plan part page body left time next_page next_revision =
    ending_plan (Moderated left.status left.task) (pages_of (desks_lost_with part page (Some left)))
    (body_change page (record body { moderation = Some left }) time next_page next_revision)
