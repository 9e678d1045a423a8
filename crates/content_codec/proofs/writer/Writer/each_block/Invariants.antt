-- What was written, with those that are left, is what is written at the end; the forms of those
-- that are left fit; and those that were written are right.
use Rattle.std.proofs.Common.{◌≡◌, ◌≤◌, ◌++◌, length, All, take, drop}
use Rattle.site_types.specs.declared.limits.TheConstants.{MAX_CONTENT_BYTES}
use Rattle.site_types.specs.Content.{blocks_form}
use Rattle.byte_forms.specs.Contents.{IsBlock}
use Rattle.content_codec.proofs.writer.Writer.each_block.Given as goal

abbrev pub invariant-loop-block : goal.invariant-loop-block
invariant-loop-block l =
    (l.self ++ blocks_form (drop l.block-index l.blocks) ≡ l.fn.self ++ blocks_form l.fn.blocks)
    × (length (blocks_form (drop l.block-index l.blocks)) ≤ MAX_CONTENT_BYTES)
    × All IsBlock (take l.block-index l.blocks)
