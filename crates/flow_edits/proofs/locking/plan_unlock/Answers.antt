-- The page is there; whether somebody has locked it.
use Rattle.std.proofs.Common.{not, max, ap, ◌∙◌}
use Rattle.flow_edits.proofs.Facts.{unlock_names}
use Rattle.flow_edits.proofs.LockPlans.{unlock_idle, unlock_prepared}
use Rattle.flow_edits.proofs.locking.plan_unlock.Goals as goal

pub kept_of-body-requires : goal.kept_of-body-requires
kept_of-body-requires c =
    let world = c.requires.0 in
    let asked = c.requires.3 in (
      world,
      asked.given.ready.stands,
      (unlock_names world c.requires.2 c.args.page asked.front).there,
    )

pub returns-then-is_none : goal.returns-then-is_none
returns-then-is_none c = λ world desk caller asked.
    unlock_idle c.args.part.now world desk c.args.now caller c.args.page asked c.kept_of-body.result
    (c.kept_of-body.ensures world asked.given.ready.stands)
    (c.is_none.ensures ∙ ap not c.if-is_none.true)

pub returns : goal.returns
returns c = λ world desk caller asked.
    unlock_prepared c.args.part.now world desk c.args.now caller c.args.page asked c.kept_of-body.result
    (c.kept_of-body.ensures world asked.given.ready.stands)
    (c.is_none.ensures ∙ ap not c.if-is_none.false) c.later-time.result
    (c.later-time.ensures ∙ ap (λ t. max t c.args.now) asked.given.ready.stands.time)
    c.unlocked_body-after.result c.no_pages.result c.unlocked_body-after.ensures c.no_pages.ensures
    c.body_plan.result c.body_plan.ensures
