-- The tasks, and then the number.
use Rattle.std.proofs.Common.{sym, ap, subst, ◌∙◌, ◌+◌, ◌<◌, ◌≤◌, ℕ}
use Rattle.site_ids.specs.declared.ids.TheConstants.{LAST_WORKFLOW_ID}
use Rattle.site_model.specs.Tasks.{one_missing}
use Rattle.moderating.proofs.DefinePlans.{workflow_unnamed, workflow_full, workflow_planned}
use Rattle.moderating.proofs.defining.plan_workflow.Goals as goal

pub returns-then-one_missing-clause-plan : goal.returns-then-one_missing-clause-plan
returns-then-one_missing-clause-plan c = λ world desk caller asked.
    workflow_unnamed c.args.part.now world desk c.args.now caller c.args.tasks.now asked
    (ap (λ (n : ℕ). one_missing (n + 1) c.args.tasks.now) (sym c.task_count.ensures.value)
    ∙ (sym c.one_missing.ensures ∙ c.if-one_missing.true))

pub returns-then-count-ge-LAST_WORKFLOW_ID-clause-plan :
    goal.returns-then-count-ge-LAST_WORKFLOW_ID-clause-plan
returns-then-count-ge-LAST_WORKFLOW_ID-clause-plan c = λ world desk caller asked.
    workflow_full c.args.part.now world desk c.args.now caller c.args.tasks.now asked
    (ap (λ (n : ℕ). one_missing (n + 1) c.args.tasks.now) (sym c.task_count.ensures.value)
    ∙ (sym c.one_missing.ensures ∙ c.if-one_missing.false))
    (subst (λ n. LAST_WORKFLOW_ID ≤ n) c.workflow_count-count.ensures.value
    c.if-count-ge-LAST_WORKFLOW_ID.true)

pub returns-clause-plan : goal.returns-clause-plan
returns-clause-plan c = λ world desk caller asked.
    workflow_planned c.args.part.now world desk c.args.now caller c.args.tasks.now asked
    c.flow_plan.new.part c.flow_plan.ensures.same
    (ap (λ (n : ℕ). one_missing (n + 1) c.args.tasks.now) (sym c.task_count.ensures.value)
    ∙ (sym c.one_missing.ensures ∙ c.if-one_missing.false))
    (subst (λ n. n < LAST_WORKFLOW_ID) c.workflow_count-count.ensures.value
    c.if-count-ge-LAST_WORKFLOW_ID.false)
    _ (ap (λ n. n + 1) c.workflow_count-count.ensures.value) _ c.in-Ok.ensures c.flow_plan.result
    c.flow_plan.ensures.plan
