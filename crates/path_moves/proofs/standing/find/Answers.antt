-- The rows of the page's range begin with its path.
use Rattle.path_moves.proofs.RelabelLemmas.{some_rows, rows_begin_with}
use Rattle.path_moves.proofs.standing.find.Goals as goal

pub returns-clause-some : goal.returns-clause-some
returns-clause-some c =
    some_rows c.args.rows.now.pages c.args.page c.in-Some-range_of.place c.in-Some-range_of.count
    c.requires.there c.in-Some-range_of.ensures.range

pub returns-clause-below : goal.returns-clause-below
returns-clause-below c =
    rows_begin_with c.args.rows.now.pages c.args.page c.in-Some-range_of.place
    c.in-Some-range_of.count c.in-Some.path c.in-Some.ensures.value
    c.in-Some-range_of.ensures.range
