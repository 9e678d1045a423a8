-- The names that are left must be those of the members that are left.
use Rattle.std.proofs.Common.{◌≡◌, map}
use Rattle.serde_json.specs.View.{members_view}
use Rattle.json_model.specs.Members.{are_named}
use Rattle.block_content.proofs.members.are_named.Given as goal

abbrev pub invariant-loop-name : goal.invariant-loop-name
invariant-loop-name l =
    (goal.iterator-loop-name).can_next l.name-iterator
    × (goal.iterator-loop-name).is_finite l.name-iterator
    × (are_named (map (λ name. name.now) l.wanted) (members_view l.name-iterator)
    ≡ are_named (map (λ name. name.now) l.names) (members_view l.members.entries))
