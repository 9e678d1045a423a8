-- The assignment of a workflow to a page: what is refused, and what is planned.
use Rattle.std.proofs.Common.{◌≡◌, ◌+◌, ℕ, Bool, true, false, List, [], length, Option, Some, None, Result, Ok, Err, refl, sym, ap, ◌∙◌}
use Rattle.site_types.specs.Content.{ContentValue}
use Rattle.site_types.specs.declared.body.Body.{Body}
use Rattle.site_types.specs.declared.command.Command.TheVariants as commands
use Rattle.site_types.specs.declared.refusal.NameKind.TheVariants as kinds
use Rattle.site_types.specs.declared.refusal.Refusal.TheVariants.{NothingNew, NoName}
use Rattle.site_types.specs.declared.reply.Reply.TheVariants as replies
use Rattle.site_model.specs.World as worlds
use Rattle.site_model.specs.Bodies.{rebodied, same_number}
use Rattle.site_model.specs.Losing.{suspects_of, shuts}
use Rattle.site_model.specs.Rules.{refused_if}
use Rattle.site_model.specs.Step.{rules, step_by}
use Rattle.site_model.specs.Step as steps
use Rattle.site_model.specs.Tasks.{no_workflow, assign_rules, assign}
use Rattle.site_model.specs.Views.{body_of}
use Rattle.site_model.proofs.LosingEnds.{ends_none}
use Rattle.flat_model.specs.Single.{body_change}
use Rattle.site_part.specs.Plans.{Prepares}
use Rattle.site_part.specs.declared.fault.Fault.{Fault}
use Rattle.site_part.specs.declared.part.TreePart.{TreePart}
use Rattle.site_part.specs.declared.plan.Plan.{Plan}
use Rattle.site_part.proofs.StepLemmas.{own_refuses}
use Rattle.moderating.specs.Asked.{IsAsked}
use Rattle.moderating.specs.Moderated.{names_none, assigned_body}
use Rattle.moderating.specs.Plans.{ending_plan, Plans}
use Rattle.moderating.proofs.Planned.{prepared, body_planned, fields_same}
use Rattle.moderating.proofs.Steps.{none_end, ends_step}

-- a workflow that is named is refused where it is not there
unnamed : (part : worlds.TreePart) (workflow : Option ℕ) →
    no_workflow part workflow
    ≡ refused_if (names_none part.next_workflow workflow) (NoName kinds.Workflow)
unnamed part None = refl
unnamed part (Some id) = refl

module _ (kept : TreePart) (part : worlds.TreePart) (desk : Option ContentValue)
    (now caller page : ℕ) (workflow : Option ℕ)
    (asked : IsAsked kept part desk caller (commands.Assign page workflow)) (body : Body)
    (found : body_of part.tree page ≡ Some body) where
  -- the command's own rules, and what it does
  assign_own : rules part desk now caller (commands.Assign page workflow)
      ≡ assign_rules part page workflow
  unfolding rules
  assign_own = refl

  assign_done : steps.effect part desk now caller (commands.Assign page workflow)
      ≡ assign part now page workflow
  unfolding steps.effect
  assign_done = refl

  -- it ends no desk
  assign_ends : (left : worlds.TreePart) (told : worlds.Effect) →
      step_by part desk now caller (commands.Assign page workflow) ≡ Ok (left, told) →
      told.ended ≡ []
  unfolding suspects_of shuts
  assign_ends left told is =
      ends_none part left told desk now caller (commands.Assign page workflow)
      asked.given.ready.reached.sound refl refl is

  -- whether the workflow is not there
  missing : (t : Bool) → names_none (length kept.flows.workflows + 1) workflow ≡ t →
      names_none part.next_workflow workflow ≡ t
  missing t is =
      ap (λ (next : ℕ). names_none next workflow)
      (sym (ap (λ (all : List (List ℕ)). length all + 1) asked.given.ready.stands.flows.workflows
      ∙ sym asked.given.ready.reached.sound.tasks.workflows_numbered)) ∙ is

  -- it is so already
  pub assign_known : same_number body.workflow workflow ≡ true →
      step_by part desk now caller (commands.Assign page workflow) ≡ Err NothingNew
  assign_known is =
      own_refuses part desk now caller (commands.Assign page workflow) NothingNew asked.front
      (assign_own ∙ rw (found, is) refl)

  -- a workflow that is not there
  pub assign_unnamed : same_number body.workflow workflow ≡ false →
      names_none (length kept.flows.workflows + 1) workflow ≡ true →
      step_by part desk now caller (commands.Assign page workflow) ≡ Err (NoName kinds.Workflow)
  assign_unnamed new is =
      own_refuses part desk now caller (commands.Assign page workflow) (NoName kinds.Workflow)
      asked.front (assign_own ∙ rw (found, new, unnamed part workflow, missing true is) refl)

  -- what is told of any other
  pub assign_prepared : same_number body.workflow workflow ≡ false →
      names_none (length kept.flows.workflows + 1) workflow ≡ false → (time : ℕ) →
      time ≡ worlds.time_at part now → (new : Body) (shut : List ℕ) →
      new ≡ assigned_body workflow body → shut ≡ [] → (result : Result Plan Fault) →
      Plans (ending_plan replies.Done shut
      (body_change page new time kept.next_page kept.next_revision)) result →
      Prepares part desk now caller (commands.Assign page workflow) kept result
  assign_prepared new there time time_is new_body shut new_is shut_is result is =
      let ready = asked.given.ready in
      let change : Body → Body = λ (one : Body). record one { workflow = workflow } in
      prepared (commands.Assign page workflow) kept part desk now caller _ _ result
      (fields_same replies.Done replies.Done shut [] page new_body (change body) time
      kept.next_page kept.next_revision refl shut_is new_is)
      (body_planned (commands.Assign page workflow) kept part desk now caller page replies.Done []
      change body (change body) time kept.next_page kept.next_revision ready found refl time_is
      ready.stands.next_page ready.stands.next_revision
      (ends_step part desk now caller (commands.Assign page workflow)
      (record part { time = worlds.time_at part now; tree = rebodied page change part.tree })
      replies.Done false asked.front
      (assign_own ∙ rw (found, new, unnamed part workflow, missing false there) refl) assign_done
      refl [] assign_ends (none_end part.desk_pairs))) is
