-- Whether it is so already, then the user, then the group; and the desks that end.
use Rattle.std.proofs.Common.{sym, ap, ◌∙◌}
use mathlib.Core.Bool.{beq}
use Rattle.site_part.proofs.StandingLemmas.{same_both}
use Rattle.flow_edits.proofs.JoiningPlans.{agree_not, member_known, member_no_user, member_no_group, member_planned}
use Rattle.flow_edits.proofs.joining.plan_member.Goals as goal

pub returns-then-is_member-on-clause-plan : goal.returns-then-is_member-on-clause-plan
returns-then-is_member-on-clause-plan c = λ world desk caller asked.
    member_known c.args.part.now world desk c.args.now caller c.args.user c.args.group c.args.on asked
    (ap (λ t. beq t c.args.on) (sym c.is_member.ensures) ∙ c.if-is_member-on.true)

pub returns-then-not-has_user-clause-plan : goal.returns-then-not-has_user-clause-plan
returns-then-not-has_user-clause-plan c = λ world desk caller asked.
    member_no_user c.args.part.now world desk c.args.now caller c.args.user c.args.group c.args.on
    asked (ap (λ t. beq t c.args.on) (sym c.is_member.ensures) ∙ c.if-is_member-on.false)
    (sym (c.has_user.ensures world asked.given.ready) ∙ c.if-not-has_user.true)

pub returns-then-not-has_group-clause-plan : goal.returns-then-not-has_group-clause-plan
returns-then-not-has_group-clause-plan c = λ world desk caller asked.
    member_no_group c.args.part.now world desk c.args.now caller c.args.user c.args.group c.args.on
    asked (ap (λ t. beq t c.args.on) (sym c.is_member.ensures) ∙ c.if-is_member-on.false)
    (sym (c.has_user.ensures world asked.given.ready) ∙ c.if-not-has_user.false)
    (sym (c.has_group.ensures world asked.given.ready) ∙ c.if-not-has_group.true)

pub ended_by_member-requires : goal.ended_by_member-requires
ended_by_member-requires c = record {
  ready = (c.requires.0, c.requires.3.given.ready);
  new = agree_not c.args.on _ (ap (λ t. beq t c.args.on) (sym c.is_member.ensures)
      ∙ c.if-is_member-on.false);
}

pub returns-clause-same : goal.returns-clause-same
returns-clause-same c =
    same_both c.args.part.now c.ended_by_member.new.part c.ready_plan.new.part
    c.ended_by_member.ensures.same c.ready_plan.ensures.same

pub returns-clause-plan : goal.returns-clause-plan
returns-clause-plan c = λ world desk caller asked.
    member_planned c.args.part.now world desk c.args.now caller c.args.user c.args.group c.args.on
    asked (ap (λ t. beq t c.args.on) (sym c.is_member.ensures) ∙ c.if-is_member-on.false)
    c.ended_by_member.new.part c.ready_plan.new.part c.ended_by_member.ensures.same
    c.ready_plan.ensures.same
    (sym (c.has_user.ensures world asked.given.ready) ∙ c.if-not-has_user.false)
    (sym (c.has_group.ensures world asked.given.ready) ∙ c.if-not-has_group.false) c.in-Ok.shut
    (c.in-Ok.ensures.lost world c.args.now asked.given.ready) c.ready_plan.result
    c.ready_plan.ensures.plan
