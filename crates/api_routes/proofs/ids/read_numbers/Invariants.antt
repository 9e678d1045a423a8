-- What is read of all values is what was read, and then what is read of those that are left.
use Rattle.std.proofs.Common.{◌≡◌, ◌++◌, drop, option_map}
use Rattle.serde_json.specs.View.{items_view}
use Rattle.json_model.specs.Members.{whole_within, each_of}
use Rattle.api_routes.proofs.ids.read_numbers.Given as goal

abbrev pub invariant-loop-value : goal.invariant-loop-value
invariant-loop-value l =
    each_of (whole_within 1 l.last) (items_view l.values)
    ≡ option_map (λ rest. l.numbers.items ++ rest)
    (each_of (whole_within 1 l.last) (items_view (drop l.value-index l.values)))
