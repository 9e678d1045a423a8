-- A plan is found; then room is made for what is found fast, and the links that pages get are found.
use Rattle.std.proofs.Common.{subst}
use Rattle.std.specs.Option.{option_copied}
use Rattle.site_ids.specs.Moment.{IsMoment}
use Rattle.site_part.proofs.StandingLemmas.{same_both}
use Rattle.site_core.proofs.LinkRoom.{plan_fits, plan_tells, stays_with_links, links_fit}
use Rattle.site_core.proofs.RoomLemmas.{alike_same, room_alike, links_alike, same_throughout, plan_alike, plan_stays}
use Rattle.site_core.proofs.part.prepare.Goals as goal

pub find_links-requires : goal.find_links-requires
find_links-requires c =
    let plan = c.in-Ok.plan in
    let given = c.requires.ready in
    record {
      fit = plan_fits given.0 (option_copied c.args.desk) c.args.now c.args.caller
          c.args.command.now plan c.make_room.new.part
          (plan_alike given.0 (option_copied c.args.desk) c.args.now c.args.caller
          c.args.command.now plan c.find_plan.new.part c.make_room.new.part plan.links
          (room_alike c.find_plan.new.part c.make_room.new.part c.make_room.ensures.room)
          (c.in-Ok.ensures.plan given.0 given.1 given.2 given.3));
    }

pub returns-in-Ok-find_links-clause-same : goal.returns-in-Ok-find_links-clause-same
returns-in-Ok-find_links-clause-same c =
    same_throughout c.args.part.now c.find_plan.new.part c.make_room.new.part c.find_links.new.part
    c.find_plan.ensures.same c.make_room.ensures.room c.find_links.ensures.same

pub returns-in-Err-find_links-clause-same : goal.returns-in-Err-find_links-clause-same
returns-in-Err-find_links-clause-same c =
    same_throughout c.args.part.now c.find_plan.new.part c.make_room.new.part c.find_links.new.part
    c.find_plan.ensures.same c.make_room.ensures.room c.find_links.ensures.same

pub returns-in-Err-make_room-clause-same : goal.returns-in-Err-make_room-clause-same
returns-in-Err-make_room-clause-same c =
    same_both c.args.part.now c.find_plan.new.part c.make_room.new.part c.find_plan.ensures.same
    (alike_same c.find_plan.new.part c.make_room.new.part
    (room_alike c.find_plan.new.part c.make_room.new.part c.make_room.ensures.room))

pub returns-in-Ok-find_links-clause-plan : goal.returns-in-Ok-find_links-clause-plan
returns-in-Ok-find_links-clause-plan c = λ world ready fits own.
    let plan = c.in-Ok.plan in
    plan_alike world (option_copied c.args.desk) c.args.now c.args.caller c.args.command.now plan
    c.make_room.new.part c.find_links.new.part c.in-Ok-find_links.links
    (links_alike c.make_room.new.part c.find_links.new.part c.find_links.ensures.same)
    (plan_alike world (option_copied c.args.desk) c.args.now c.args.caller c.args.command.now plan
    c.find_plan.new.part c.make_room.new.part plan.links
    (room_alike c.find_plan.new.part c.make_room.new.part c.make_room.ensures.room)
    (c.in-Ok.ensures.plan world ready fits own))

pub returns-in-Ok-find_links-clause-in_step : goal.returns-in-Ok-find_links-clause-in_step
returns-in-Ok-find_links-clause-in_step c = λ world ready fits own.
    stays_with_links c.in-Ok.plan c.make_room.new.part c.find_links.new.part
    c.find_links.ensures.same world
    (plan_stays world (option_copied c.args.desk) c.args.now c.args.caller c.args.command.now
    c.in-Ok.plan c.args.part.now c.find_plan.new.part c.make_room.new.part ready
    (subst IsMoment c.get-seconds.ensures.value c.get-seconds.ensures.range) fits own
    c.len-len.ensures.pages (c.in-Ok.ensures.plan world ready fits own)
    c.in-Ok-make_room.ensures.ok)

pub returns-in-Ok-find_links-clause-links : goal.returns-in-Ok-find_links-clause-links
returns-in-Ok-find_links-clause-links c = λ world ready fits own.
    let plan = c.in-Ok.plan in
    let has = plan_alike world (option_copied c.args.desk) c.args.now c.args.caller
    c.args.command.now plan c.find_plan.new.part c.make_room.new.part plan.links
    (room_alike c.find_plan.new.part c.make_room.new.part c.make_room.ensures.room)
    (c.in-Ok.ensures.plan world ready fits own) in
    links_fit plan c.make_room.new.part c.find_links.new.part c.find_links.ensures.same
    c.in-Ok-find_links.links c.in-Ok-find_links.ensures.room
    (c.in-Ok-find_links.ensures.after has.can.ready.stands.in_step.aliased
    (plan_tells world (option_copied c.args.desk) c.args.now c.args.caller c.args.command.now plan
    c.args.part.now c.make_room.new.part ready
    (subst IsMoment c.get-seconds.ensures.value c.get-seconds.ensures.range) fits own
    c.len-len.ensures.pages has))
