-- The page is there; whether it has something scheduled.
use Rattle.std.proofs.Common.{not, max, ap, ◌∙◌}
use Rattle.flow_edits.proofs.Facts.{unschedule_names}
use Rattle.flow_edits.proofs.PublishPlans.{unschedule_idle, unschedule_prepared}
use Rattle.flow_edits.proofs.publication.plan_unschedule.Goals as goal

pub kept_of-body-requires : goal.kept_of-body-requires
kept_of-body-requires c =
    let world = c.requires.0 in
    let asked = c.requires.3 in (
      world,
      asked.given.ready.stands,
      (unschedule_names world c.requires.2 c.args.page asked.front).there,
    )

pub returns-then-is_none : goal.returns-then-is_none
returns-then-is_none c = λ world desk caller asked.
    unschedule_idle c.args.part.now world desk c.args.now caller c.args.page asked c.kept_of-body.result
    (c.kept_of-body.ensures world asked.given.ready.stands)
    (c.is_none.ensures ∙ ap not c.if-is_none.true)

pub returns : goal.returns
returns c = λ world desk caller asked.
    unschedule_prepared c.args.part.now world desk c.args.now caller c.args.page asked c.kept_of-body.result
    (c.kept_of-body.ensures world asked.given.ready.stands)
    (c.is_none.ensures ∙ ap not c.if-is_none.false) c.later-time.result
    (c.later-time.ensures ∙ ap (λ t. max t c.args.now) asked.given.ready.stands.time)
    c.unscheduled_body-after.result c.no_pages.result c.unscheduled_body-after.ensures c.no_pages.ensures
    c.body_plan.result c.body_plan.ensures
