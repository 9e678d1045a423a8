-- The page at a place is there, with its path.
use Rattle.path_moves.proofs.RelabelLemmas.{path_at, pair_at}
use Rattle.path_moves.proofs.standing.row_at.Goals as goal

pub unreachable-requires : goal.unreachable-requires
unreachable-requires c =
    let row = path_at c.args.rows.now.pages c.args.place c.in-Some.page _ c.path_of.ensures.pages
    c.in-Some.ensures c.in_default-path_of.ensures.value in
    let never = row.3 in cc

pub returns : goal.returns
returns c =
    pair_at c.args.rows.now.pages c.args.place c.in-Some.page c.in-Some-path_of.path
    c.path_of.ensures.pages c.in-Some.ensures c.in-Some-path_of.ensures.value
