-- One more block is read.
use Rattle.json_model.specs.Content.{block_of}
use Rattle.block_content.proofs.ReadLemmas.{next_is_read}
use Rattle.block_content.proofs.read.read_blocks.Goals as goal

pub loop-value-preserved : goal.loop-value-preserved
loop-value-preserved c =
    let next = next_is_read block_of c.args.values.now c.loop-value.value-index c.value-item.result
    c.loop-value.blocks.items c.in_ok-read_block.field-0 _ c.loop-value-test.true c.value-item.is
    c.in_ok-read_block.ensures c.loop-value.invariant in
    rw (c.in_ok-push.ensures.items) next
