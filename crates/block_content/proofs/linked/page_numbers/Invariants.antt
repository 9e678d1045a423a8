-- The pages of all blocks are those that were found, and then those of the blocks that are left.
use Rattle.std.proofs.Common.{◌≡◌, ◌++◌, drop}
use Rattle.site_types.specs.Links.{pages_in}
use Rattle.block_content.proofs.linked.page_numbers.Given as goal

abbrev pub invariant-loop-block : goal.invariant-loop-block
invariant-loop-block l =
    l.numbers.items ++ pages_in (drop l.block-index l.blocks) ≡ pages_in l.blocks
