-- The digest, and then the number.
use Rattle.std.proofs.Common.{sym, ap, subst, is_some, ◌∙◌, ◌+◌, ◌<◌, ◌≤◌}
use Rattle.site_ids.specs.declared.ids.TheConstants.{LAST_USER_ID}
use Rattle.flow_edits.proofs.PeoplePlans.{user_known, user_full, user_planned}
use Rattle.flow_edits.proofs.people.plan_user.Goals as goal

pub returns-then-is_some-clause-plan : goal.returns-then-is_some-clause-plan
returns-then-is_some-clause-plan c = λ world desk caller asked.
    user_known c.args.part.now world desk c.args.now caller c.args.superuser c.args.digest.now asked
    (sym (ap is_some c.user_with.ensures) ∙ (sym c.is_some.ensures ∙ c.if-is_some.true))

pub returns-then-count-ge-LAST_USER_ID-clause-plan : goal.returns-then-count-ge-LAST_USER_ID-clause-plan
returns-then-count-ge-LAST_USER_ID-clause-plan c = λ world desk caller asked.
    user_full c.args.part.now world desk c.args.now caller c.args.superuser c.args.digest.now asked
    (sym (ap is_some c.user_with.ensures) ∙ (sym c.is_some.ensures ∙ c.if-is_some.false))
    (subst (λ n. LAST_USER_ID ≤ n) c.user_count-count.ensures.value
    c.if-count-ge-LAST_USER_ID.true)

pub returns-clause-plan : goal.returns-clause-plan
returns-clause-plan c = λ world desk caller asked.
    user_planned c.args.part.now world desk c.args.now caller c.args.superuser c.args.digest.now asked
    c.ready_plan.new.part c.ready_plan.ensures.same
    (sym (ap is_some c.user_with.ensures) ∙ (sym c.is_some.ensures ∙ c.if-is_some.false))
    (subst (λ n. n < LAST_USER_ID) c.user_count-count.ensures.value
    c.if-count-ge-LAST_USER_ID.false)
    _ (ap (λ n. n + 1) c.user_count-count.ensures.value) _ c.no_pages.ensures c.ready_plan.result
    c.ready_plan.ensures.plan
