-- The path behind the last kid is that of the graft.
use Rattle.std.proofs.Common.{◌∙◌}
use Rattle.path_moves.proofs.CallLemmas.{has_last, append_is}
use Rattle.path_moves.proofs.append.plan_append.Goals as goal

pub unreachable-requires-in_default-last_path : goal.unreachable-requires-in_default-last_path
unreachable-requires-in_default-last_path c =
    has_last c.args.rows.now.pages c.args.parent c.in-Some.path c.in-Some.ensures.value
    c.in_default-last_path.ensures

pub returns : goal.returns
returns c tree same =
    c.below.ensures
    ∙ append_is c.args.rows.now.pages c.args.parent c.in-Some.path c.in-Some-last_path.last tree
    c.path_of.ensures.pages c.in-Some.ensures.value c.in-Some-last_path.ensures same
