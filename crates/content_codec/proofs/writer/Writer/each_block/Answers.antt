-- One more is written.
use Rattle.byte_forms.specs.Contents.{IsBlock}
use Rattle.site_types.specs.Content.{block_form}
use Rattle.content_codec.proofs.Writing.{next_block, form_goes_on, rest_fits, one_more_holds, all_hold}
use Rattle.content_codec.proofs.writer.Writer.each_block.Goals as goal

pub loop-block-preserved : goal.loop-block-preserved
loop-block-preserved c =
    let at = c.loop-block.block-index in
    let next =
    next_block c.args.blocks.now at c.block-item.result c.loop-block-test.true c.block-item.is in
    let so_far = c.loop-block.invariant in (
      form_goes_on c.loop-block.self c.block.new.self (block_form c.block-item.result) _ _ _
          c.in_ok-block.ensures.form next so_far.0,
      rest_fits (block_form c.block-item.result) _ _ _ next so_far.1,
      one_more_holds IsBlock c.args.blocks.now at c.block-item.result c.loop-block-test.true
          c.block-item.is
          c.in_ok-block.ensures.is_block so_far.2,
    )

pub returns-clause-are_blocks : goal.returns-clause-are_blocks
returns-clause-are_blocks c =
    all_hold IsBlock c.args.blocks.now c.loop-block.block-index c.loop-block-test.false
    c.loop-block.invariant.2
