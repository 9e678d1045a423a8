-- Whether it is so already, then the group, then the room; and the desks that end.
use Rattle.std.proofs.Common.{true, false, sym, ap, ◌∙◌}
use mathlib.Core.Bool.{beq}
use Rattle.site_part.proofs.StandingLemmas.{same_both}
use Rattle.flow_edits.proofs.JoiningPlans.{agree_not, grant_known, grant_new, grant_no_group, grant_full, grant_planned, not_turned}
use Rattle.flow_edits.proofs.joining.plan_grant.Goals as goal

pub returns-then-is_granted-on-clause-plan : goal.returns-then-is_granted-on-clause-plan
returns-then-is_granted-on-clause-plan c = λ world desk caller asked.
    grant_known c.args.part.now world desk c.args.now caller c.args.group c.args.page c.args.permission
    c.args.on asked (ap (λ t. beq t c.args.on) (sym c.is_granted.ensures)
    ∙ c.if-is_granted-on.true)

pub returns-then-not-has_group-clause-plan : goal.returns-then-not-has_group-clause-plan
returns-then-not-has_group-clause-plan c = λ world desk caller asked.
    grant_no_group c.args.part.now world desk c.args.now caller c.args.group c.args.page
    c.args.permission c.args.on asked
    (ap (λ t. beq t c.args.on) (sym c.is_granted.ensures) ∙ c.if-is_granted-on.false)
    (sym (c.has_group.ensures world asked.given.ready) ∙ c.if-not-has_group.true)

pub returns-then-not-has_room-clause-plan : goal.returns-then-not-has_room-clause-plan
returns-then-not-has_room-clause-plan c = λ world desk caller asked.
    let other = ap (λ t. beq t c.args.on) (sym c.is_granted.ensures) ∙ c.if-is_granted-on.false in
    grant_full c.args.part.now world desk c.args.now caller c.args.group c.args.page c.args.permission
    c.args.on asked other
    (sym (c.has_group.ensures world asked.given.ready) ∙ c.if-not-has_group.false)
    (not_turned _ true (sym (c.has_room.ensures world c.args.group c.args.page c.args.permission
    asked.given.ready (grant_new c.args.part.now world desk c.args.now caller c.args.group c.args.page
    c.args.permission c.args.on asked other)) ∙ c.if-not-has_room.true))

pub ended_by_grant-requires : goal.ended_by_grant-requires
ended_by_grant-requires c = record {
  ready = (c.requires.0, c.requires.3.given.ready);
  new = agree_not c.args.on _ (ap (λ t. beq t c.args.on) (sym c.is_granted.ensures)
      ∙ c.if-is_granted-on.false);
}

pub returns-clause-same : goal.returns-clause-same
returns-clause-same c =
    same_both c.args.part.now c.ended_by_grant.new.part c.ready_plan.new.part
    c.ended_by_grant.ensures.same c.ready_plan.ensures.same

pub returns-clause-plan : goal.returns-clause-plan
returns-clause-plan c = λ world desk caller asked.
    let other = ap (λ t. beq t c.args.on) (sym c.is_granted.ensures) ∙ c.if-is_granted-on.false in
    grant_planned c.args.part.now world desk c.args.now caller c.args.group c.args.page
    c.args.permission c.args.on asked other c.ended_by_grant.new.part c.ready_plan.new.part
    c.ended_by_grant.ensures.same c.ready_plan.ensures.same
    (sym (c.has_group.ensures world asked.given.ready) ∙ c.if-not-has_group.false)
    (not_turned _ false (sym (c.has_room.ensures world c.args.group c.args.page c.args.permission
    asked.given.ready (grant_new c.args.part.now world desk c.args.now caller c.args.group c.args.page
    c.args.permission c.args.on asked other)) ∙ c.if-not-has_room.false)) c.in-Ok.shut
    (c.in-Ok.ensures.lost world c.args.now asked.given.ready) c.ready_plan.result
    c.ready_plan.ensures.plan
