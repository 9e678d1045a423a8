-- The page is there; the scheduler locks nothing; another's desk ends.
use Rattle.std.proofs.Common.{max, sym, ap, ◌∙◌}
use Rattle.flow_edits.proofs.Facts.{lock_names}
use Rattle.flow_edits.proofs.LockPlans.{lock_idle, lock_prepared}
use Rattle.flow_edits.proofs.locking.plan_lock.Goals as goal

pub kept_of-body-requires : goal.kept_of-body-requires
kept_of-body-requires c =
    let world = c.requires.0 in
    let asked = c.requires.2 in (
      world,
      asked.given.ready.stands,
      (lock_names world c.args.caller c.args.page asked.front).there,
    )

pub returns-then-get-eq0 : goal.returns-then-get-eq0
returns-then-get-eq0 c = λ world desk asked.
    lock_idle c.args.part.now world desk c.args.now c.args.caller c.args.page asked
    (sym c.get.ensures.value ∙ c.if-get-eq0.true)

pub returns : goal.returns
returns c = λ world desk asked.
    lock_prepared c.args.part.now world desk c.args.now c.args.caller c.args.page asked c.kept_of-body.result
    (c.kept_of-body.ensures world asked.given.ready.stands)
    (λ none. c.if-get-eq0.false (c.get.ensures.value ∙ none)) c.later-time.result
    (c.later-time.ensures ∙ ap (λ t. max t c.args.now) asked.given.ready.stands.time)
    c.locked_body-after.result c.in-Ok.shut c.locked_body-after.ensures
    (c.in-Ok.ensures world asked.given.ready) c.body_plan.result c.body_plan.ensures
