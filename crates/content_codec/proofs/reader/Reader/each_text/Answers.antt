-- One more is read, or none is.
use Rattle.std.proofs.lemmas.Result.{err_from_is_err_and}
use Rattle.content_codec.specs.Reading.{each_at}
use Rattle.content_codec.specs.Fields.{text_at}
use Rattle.content_codec.proofs.Loops.{goes_on, ends, is_done}
use Rattle.content_codec.proofs.reader.Reader.each_text.Goals as goal

pub returns-in_err-text : goal.returns-in_err-text
returns-in_err-text c =
    let from = c.from_residual in
    let fault = err_from_is_err_and from.result from.ensures.1 in
    rw (fault.1, fault.2)
    (ends text_at c.loop.texts.items c.args.count c.loop.counter c.loop.self _ _
    c.in_err-text.field-0.0 (each_at text_at c.args.count c.args.self.now) c.loop-test.true
    c.in_err-text.ensures c.loop.invariant)

pub loop-preserved : goal.loop-preserved
loop-preserved c =
    let next = goes_on text_at c.loop.texts.items c.args.count c.loop.counter c.loop.self
    c.in_ok-text.field-0 c.text.new.self (each_at text_at c.args.count c.args.self.now)
    c.loop-test.true
    c.in_ok-text.ensures c.loop.invariant in
    rw c.in_ok-push.ensures.items next

pub returns : goal.returns
returns c =
    is_done text_at c.loop.texts.items c.args.count c.loop.counter c.loop.self
    (each_at text_at c.args.count c.args.self.now) c.loop-test.false c.loop.invariant
