-- One more block is written.
use Rattle.std.proofs.Common.{ap, ◌∙◌}
use Rattle.serde_json.specs.Data.{array}
use Rattle.serde_json.specs.View.{items_of}
use Rattle.serde_json.proofs.Views.{view-Array}
use Rattle.block_content.proofs.WriteLemmas.{next_is_written, next_links_to_id, all_are_written}
use Rattle.block_content.proofs.write.write_blocks.Goals as goal

pub loop-block-preserved : goal.loop-block-preserved
loop-block-preserved c =
    let form = next_is_written c.args.blocks.now c.loop-block.block-index c.block-item.result
    c.loop-block.values.items c.in_ok-write_block.field-0 c.loop-block-test.true c.block-item.is
    c.in_ok-write_block.ensures.form c.loop-block.invariant.0 in
    let links = next_links_to_id c.args.blocks.now c.loop-block.block-index c.block-item.result
    c.loop-block-test.true c.block-item.is c.in_ok-write_block.ensures.links
    c.loop-block.invariant.1 in (
      rw (c.in_ok-push.ensures.items) form,
      links,
    )

pub returns-clause-form : goal.returns-clause-form
returns-clause-form c =
    view-Array c.loop-block.values ∙ ap (λ values. array (items_of values))
    (all_are_written c.args.blocks.now c.loop-block.block-index c.loop-block.values.items
    c.loop-block-test.false c.loop-block.invariant.0)
