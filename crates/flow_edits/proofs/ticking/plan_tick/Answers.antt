-- The tables are in step; whether something is due.
use Rattle.std.proofs.Common.{max, sym, ap, ◌∙◌}
use Rattle.flow_edits.proofs.TickPlans.{tick_idle, tick_prepared}
use Rattle.flow_edits.proofs.ticking.plan_tick.Goals as goal

pub tick_plan-requires : goal.tick_plan-requires
tick_plan-requires c = c.requires.3.given.ready.stands.in_step.timed

pub tick_bodies-requires : goal.tick_bodies-requires
tick_bodies-requires c = c.requires.3.given.ready.stands.in_step.timed

pub returns-then-is_idle : goal.returns-then-is_idle
returns-then-is_idle c = λ world desk caller asked.
    tick_idle c.args.part.now world desk c.args.now caller asked c.later-time.result
    (c.later-time.ensures ∙ ap (λ t. max t c.args.now) asked.given.ready.stands.time) c.in-Ok.due
    c.in-Ok.ensures (sym c.is_idle.ensures ∙ c.if-is_idle.true)

pub returns : goal.returns
returns c = λ world desk caller asked.
    tick_prepared c.args.part.now world desk c.args.now caller asked c.later-time.result
    (c.later-time.ensures ∙ ap (λ t. max t c.args.now) asked.given.ready.stands.time) c.in-Ok.due
    c.in-Ok.ensures (sym c.is_idle.ensures ∙ c.if-is_idle.false) c.in-Ok-tick_bodies.bodies
    c.in-Ok-tick_bodies.ensures c.ticking_plan.result c.ticking_plan.ensures
