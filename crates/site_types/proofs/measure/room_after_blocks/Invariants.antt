use Rattle.std.proofs.Common.{◌≡◌, ◌+◌, length, drop}
use Rattle.site_types.specs.Content.{blocks_form}
use Rattle.site_types.proofs.measure.room_after_blocks.Given as goal

-- the room that is left is what the forms so far have not taken
abbrev pub invariant-loop-block : goal.invariant-loop-block
invariant-loop-block l =
    let rest = blocks_form (drop l.block-index l.blocks) in
    length (blocks_form l.blocks) + l.left ≡ l.fn.room + length rest
