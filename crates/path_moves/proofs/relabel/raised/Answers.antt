-- The next step stands in place of the step.
use Rattle.std.proofs.Common.{true, false, ap, sym, ◌∙◌, slice_get, subst}
use Rattle.step_path.specs.Path.{BeginsWith}
use Rattle.page_store.proofs.PathOrder.{begins-BeginsWith, BeginsWith-begins}
use Rattle.path_moves.proofs.RelabelLemmas.{raised_value, begins_step, test_is}
use Rattle.path_moves.proofs.relabel.raised.Goals as goal

pub returns-then-begins-clause-value : goal.returns-then-begins-clause-value
returns-then-begins-clause-value c =
    raised_value c.args.above.now c.args.path.now c.in-Some-child.old c.in-Some-child-2.new
    c.in-Some.step c.in-Some-next.next _
    (BeginsWith-begins c.in-Some-child.old c.args.path.now
    (test_is c.in-Some-child.old c.args.path.now c.begins.result true c.begins.ensures
    c.if-begins.true)) c.in-Some-next.ensures.1 c.in-Some-child.ensures.1
    c.in-Some-child-2.ensures.1 c.with_prefix.ensures

pub returns-else-begins-clause-there : goal.returns-else-begins-clause-there
returns-else-begins-clause-there c up =
    let on = subst (λ old. BeginsWith old c.args.path.now) (sym c.in-Some-child.ensures.1)
    (begins_step c.args.above.now c.args.path.now c.in-Some.step up
    (c.in-Some.ensures ∙ ap (slice_get c.args.path.now) c.depth.ensures.value)) in
    let passes = begins-BeginsWith c.in-Some-child.old c.args.path.now on in
    let fails = test_is c.in-Some-child.old c.args.path.now c.begins.result false c.begins.ensures
    c.if-begins.false in
    sym fails ∙ passes
