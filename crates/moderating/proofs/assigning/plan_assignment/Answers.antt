-- The page is there; whether it has the workflow, and whether that is there.
use Rattle.std.proofs.Common.{max, sym, ap, ◌∙◌, ◌+◌, ℕ}
use Rattle.site_types.specs.declared.body.Body.{Body}
use Rattle.site_model.specs.Bodies.{same_number}
use Rattle.moderating.specs.Moderated.{names_none}
use Rattle.moderating.proofs.Facts.{assign_there}
use Rattle.moderating.proofs.AssignPlans.{assign_known, assign_unnamed, assign_prepared}
use Rattle.moderating.proofs.assigning.plan_assignment.Goals as goal

pub kept_of-body-requires : goal.kept_of-body-requires
kept_of-body-requires c =
    let world = c.requires.0 in
    let asked = c.requires.3 in (
      world,
      asked.given.ready.stands,
      assign_there world c.requires.2 c.args.page c.args.workflow asked.front,
    )

pub returns-then-same_workflow : goal.returns-then-same_workflow
returns-then-same_workflow c = λ world desk caller asked.
    assign_known c.args.part.now world desk c.args.now caller c.args.page c.args.workflow asked
    c.kept_of-body.result (c.kept_of-body.ensures world asked.given.ready.stands)
    (ap (λ (new : Body). same_number c.kept_of-body.result.workflow new.workflow)
    (sym c.assigned_body-after.ensures) ∙ (sym c.same_workflow.ensures ∙ c.if-same_workflow.true))

pub returns-then-names_none : goal.returns-then-names_none
returns-then-names_none c = λ world desk caller asked.
    assign_unnamed c.args.part.now world desk c.args.now caller c.args.page c.args.workflow asked
    c.kept_of-body.result (c.kept_of-body.ensures world asked.given.ready.stands)
    (ap (λ (new : Body). same_number c.kept_of-body.result.workflow new.workflow)
    (sym c.assigned_body-after.ensures) ∙ (sym c.same_workflow.ensures ∙ c.if-same_workflow.false))
    (ap (λ (n : ℕ). names_none (n + 1) c.args.workflow) (sym c.workflow_count.ensures.value)
    ∙ (ap (λ (new : Body). names_none (c.workflow_count.result + 1) new.workflow)
    (sym c.assigned_body-after.ensures) ∙ (sym c.names_none.ensures ∙ c.if-names_none.true)))

pub returns : goal.returns
returns c = λ world desk caller asked.
    assign_prepared c.args.part.now world desk c.args.now caller c.args.page c.args.workflow asked
    c.kept_of-body.result (c.kept_of-body.ensures world asked.given.ready.stands)
    (ap (λ (new : Body). same_number c.kept_of-body.result.workflow new.workflow)
    (sym c.assigned_body-after.ensures) ∙ (sym c.same_workflow.ensures ∙ c.if-same_workflow.false))
    (ap (λ (n : ℕ). names_none (n + 1) c.args.workflow) (sym c.workflow_count.ensures.value)
    ∙ (ap (λ (new : Body). names_none (c.workflow_count.result + 1) new.workflow)
    (sym c.assigned_body-after.ensures) ∙ (sym c.names_none.ensures ∙ c.if-names_none.false)))
    c.later-time.result
    (c.later-time.ensures ∙ ap (λ t. max t c.args.now) asked.given.ready.stands.time)
    c.assigned_body-after.result c.no_pages.result c.assigned_body-after.ensures c.no_pages.ensures
    c.body_plan.result c.body_plan.ensures
