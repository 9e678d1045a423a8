-- The last row of a range is the last of its page's subtree.
use Rattle.path_moves.proofs.CallLemmas.{last_found}
use Rattle.path_moves.proofs.look.last_path.Goals as goal

pub returns : goal.returns
returns c row found =
    last_found c.args.rows.now.pages c.args.page c.in-Some.place c.in-Some.count c.in-Some-at.last
    row _
    c.len-len.ensures.pages c.in-Some.ensures.range c.in-Some-at.ensures c.path_of.ensures.value
    found
