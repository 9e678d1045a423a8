-- What is read of all values is what was read, and then what is read of those that are left.
use Rattle.std.proofs.Common.{◌≡◌, ◌++◌, drop, option_map}
use Rattle.json_model.specs.Content.{block_of}
use Rattle.serde_json.specs.View.{items_view}
use Rattle.json_model.specs.Members.{each_of}
use Rattle.block_content.proofs.read.read_blocks.Given as goal

abbrev pub invariant-loop-value : goal.invariant-loop-value
invariant-loop-value l =
    each_of block_of (items_view l.values)
    ≡ option_map (λ rest. l.blocks.items ++ rest)
    (each_of block_of (items_view (drop l.value-index l.values)))
