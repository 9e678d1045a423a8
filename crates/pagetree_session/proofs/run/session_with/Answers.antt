-- With a clock that the options ask for, or with the one that is given.
use Rattle.std.proofs.Common.{◌∙◌}
use Rattle.pagetree_session.specs.Words.{clock_asked, moments_of}
use Rattle.pagetree_session.proofs.ClockLemmas.{asked_ends, given_ends}
use Rattle.pagetree_session.proofs.run.session_with.Goals as goal

pub returns-in-Some-clause-ends : goal.returns-in-Some-clause-ends
returns-in-Some-clause-ends g c = λ bytes told.
    asked_ends _ _ _ bytes (g.S.Source.left c.run_session.new.source)
    (g.K.Sink.taken c.args.sink.now) (g.K.Sink.taken c.run_session.new.sink)
    (clock_asked c.args.options) c.in-Some.clock (g.C.Clock.coming c.args.clock.now)
    (moments_of c.run_session.new.clock) c.run_session.result.status
    (c.clock_of.ensures ∙ c.in-Some.is) (c.run_session.ensures.ends bytes told)

pub returns-in-None-clause-ends : goal.returns-in-None-clause-ends
returns-in-None-clause-ends g c = λ bytes told.
    given_ends _ _ _ bytes (g.S.Source.left c.run_session-in-None.new.source)
    (g.K.Sink.taken c.args.sink.now) (g.K.Sink.taken c.run_session-in-None.new.sink)
    (clock_asked c.args.options) (g.C.Clock.coming c.args.clock.now)
    (g.C.Clock.coming c.run_session-in-None.new.clock) c.run_session-in-None.result.status
    (c.clock_of.ensures ∙ c.in-None.is) (c.run_session-in-None.ensures.ends bytes told)
