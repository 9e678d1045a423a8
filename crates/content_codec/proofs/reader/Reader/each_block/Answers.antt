-- One more is read, or none is.
use Rattle.std.proofs.lemmas.Result.{err_from_is_err_and}
use Rattle.content_codec.specs.Reading.{each_at}
use Rattle.content_codec.specs.Contents.{block_at}
use Rattle.content_codec.proofs.Loops.{goes_on, ends, is_done}
use Rattle.content_codec.proofs.reader.Reader.each_block.Goals as goal

pub returns-in_err-block : goal.returns-in_err-block
returns-in_err-block c =
    let from = c.from_residual in
    let fault = err_from_is_err_and from.result from.ensures.1 in
    rw (fault.1, fault.2)
    (ends block_at c.loop.blocks.items c.args.count c.loop.counter c.loop.self _ _
    c.in_err-block.field-0.0 (each_at block_at c.args.count c.args.self.now) c.loop-test.true
    c.in_err-block.ensures c.loop.invariant)

pub loop-preserved : goal.loop-preserved
loop-preserved c =
    let next = goes_on block_at c.loop.blocks.items c.args.count c.loop.counter c.loop.self
    c.in_ok-block.field-0 c.block.new.self (each_at block_at c.args.count c.args.self.now)
    c.loop-test.true
    c.in_ok-block.ensures c.loop.invariant in
    rw c.in_ok-push.ensures.items next

pub returns : goal.returns
returns c =
    is_done block_at c.loop.blocks.items c.args.count c.loop.counter c.loop.self
    (each_at block_at c.args.count c.args.self.now) c.loop-test.false c.loop.invariant
