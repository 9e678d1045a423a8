-- One more is read, or none is.
use Rattle.std.proofs.lemmas.Result.{err_from_is_err_and}
use Rattle.content_codec.specs.Reading.{each_at, number_at}
use Rattle.content_codec.proofs.Loops.{goes_on, ends, is_done}
use Rattle.content_codec.proofs.reader.Reader.each_number.Goals as goal

pub returns-in_err-u32 : goal.returns-in_err-u32
returns-in_err-u32 c =
    let from = c.from_residual-in_err-u32 in
    let fault = err_from_is_err_and from.result from.ensures.1 in
    rw (fault.1, fault.2)
    (ends (number_at 4) c.loop.numbers.items c.args.count c.loop.counter c.loop.self _ _
    c.in_err-u32.field-0.0 (each_at (number_at 4) c.args.count c.args.self.now) c.loop-test.true
    c.in_err-u32.ensures c.loop.invariant)

pub loop-preserved : goal.loop-preserved
loop-preserved c =
    let next = goes_on (number_at 4) c.loop.numbers.items c.args.count c.loop.counter c.loop.self
    c.in_ok-u32.field-0 c.u32.new.self (each_at (number_at 4) c.args.count c.args.self.now)
    c.loop-test.true
    c.in_ok-u32.ensures c.loop.invariant in
    rw c.in_ok-push.ensures.items next

pub returns : goal.returns
returns c =
    is_done (number_at 4) c.loop.numbers.items c.args.count c.loop.counter c.loop.self
    (each_at (number_at 4) c.args.count c.args.self.now) c.loop-test.false c.loop.invariant
