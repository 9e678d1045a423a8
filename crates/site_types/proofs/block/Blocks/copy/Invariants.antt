use Rattle.std.proofs.Common.{◌≡◌, take}
use Rattle.site_types.proofs.block.Blocks.copy.Given as goal

-- the blocks copied so far are the first ones
abbrev pub invariant-loop-block : goal.invariant-loop-block
invariant-loop-block l = l.blocks.items ≡ take l.block-index l.block-items
