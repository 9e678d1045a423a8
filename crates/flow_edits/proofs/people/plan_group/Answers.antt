-- The number is tried.
use Rattle.std.proofs.Common.{ap, subst, ◌+◌, ◌<◌, ◌≤◌}
use Rattle.site_ids.specs.declared.ids.TheConstants.{LAST_GROUP_ID}
use Rattle.flow_edits.proofs.PeoplePlans.{group_full, group_planned}
use Rattle.flow_edits.proofs.people.plan_group.Goals as goal

pub returns-then-count-ge-LAST_GROUP_ID-clause-plan : goal.returns-then-count-ge-LAST_GROUP_ID-clause-plan
returns-then-count-ge-LAST_GROUP_ID-clause-plan c = λ world desk caller asked.
    group_full c.args.part.now world desk c.args.now caller asked
    (subst (λ n. LAST_GROUP_ID ≤ n) c.group_count-count.ensures.value
    c.if-count-ge-LAST_GROUP_ID.true)

pub returns-clause-plan : goal.returns-clause-plan
returns-clause-plan c = λ world desk caller asked.
    group_planned c.args.part.now world desk c.args.now caller asked c.ready_plan.new.part
    c.ready_plan.ensures.same
    (subst (λ n. n < LAST_GROUP_ID) c.group_count-count.ensures.value
    c.if-count-ge-LAST_GROUP_ID.false)
    _ (ap (λ n. n + 1) c.group_count-count.ensures.value) _ c.no_pages.ensures c.ready_plan.result
    c.ready_plan.ensures.plan
