-- The groups, and then the number.
use Rattle.std.proofs.Common.{sym, ap, subst, ◌∙◌, ◌+◌, ◌<◌, ◌≤◌, ℕ}
use Rattle.site_ids.specs.declared.ids.TheConstants.{LAST_TASK_ID}
use Rattle.site_model.specs.Tasks.{one_missing}
use Rattle.moderating.proofs.DefinePlans.{task_unnamed, task_full, task_planned}
use Rattle.moderating.proofs.defining.plan_task.Goals as goal

pub returns-then-one_missing-clause-plan : goal.returns-then-one_missing-clause-plan
returns-then-one_missing-clause-plan c = λ world desk caller asked.
    task_unnamed c.args.part.now world desk c.args.now caller c.args.groups.now asked
    (ap (λ (n : ℕ). one_missing (n + 1) c.args.groups.now) (sym c.group_count.ensures.value)
    ∙ (sym c.one_missing.ensures ∙ c.if-one_missing.true))

pub returns-then-count-ge-LAST_TASK_ID-clause-plan :
    goal.returns-then-count-ge-LAST_TASK_ID-clause-plan
returns-then-count-ge-LAST_TASK_ID-clause-plan c = λ world desk caller asked.
    task_full c.args.part.now world desk c.args.now caller c.args.groups.now asked
    (ap (λ (n : ℕ). one_missing (n + 1) c.args.groups.now) (sym c.group_count.ensures.value)
    ∙ (sym c.one_missing.ensures ∙ c.if-one_missing.false))
    (subst (λ n. LAST_TASK_ID ≤ n) c.task_count-count.ensures.value
    c.if-count-ge-LAST_TASK_ID.true)

pub returns-clause-plan : goal.returns-clause-plan
returns-clause-plan c = λ world desk caller asked.
    task_planned c.args.part.now world desk c.args.now caller c.args.groups.now asked
    c.flow_plan.new.part c.flow_plan.ensures.same
    (ap (λ (n : ℕ). one_missing (n + 1) c.args.groups.now) (sym c.group_count.ensures.value)
    ∙ (sym c.one_missing.ensures ∙ c.if-one_missing.false))
    (subst (λ n. n < LAST_TASK_ID) c.task_count-count.ensures.value
    c.if-count-ge-LAST_TASK_ID.false)
    _ (ap (λ n. n + 1) c.task_count-count.ensures.value) _ c.in-Ok.ensures c.flow_plan.result
    c.flow_plan.ensures.plan
