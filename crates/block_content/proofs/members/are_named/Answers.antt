-- At the end no members are left.
use Rattle.std.proofs.Common.{◌≡◌, [], sym, ◌∙◌}
use Rattle.block_content.proofs.ReadLemmas.{no_members_left}
use Rattle.block_content.proofs.members.are_named.Goals as goal

pub returns : goal.returns
returns c =
    let ended : c.loop-name.name-iterator ≡ [] = c.in-None.ensures.steps.0 in
    let left = rw ended at c.loop-name.invariant.2 in
    c.is_empty.ensures ∙ sym (no_members_left c.loop-name.wanted.now) ∙ left
