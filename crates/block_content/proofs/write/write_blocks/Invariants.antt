-- The values that were written are those of the blocks so far, which link to ids.
use Rattle.std.proofs.Common.{◌≡◌, All, map, take}
use Rattle.serde_json.specs.View.{view}
use Rattle.json_model.specs.Content.{block_data}
use Rattle.json_model.specs.Limits.{LinksToId}
use Rattle.block_content.proofs.write.write_blocks.Given as goal

abbrev pub invariant-loop-block : goal.invariant-loop-block
invariant-loop-block l =
    (map view l.values.items ≡ map block_data (take l.block-index l.blocks))
    × All LinksToId (take l.block-index l.blocks)
