-- The target's path begins with the page's.
use Rattle.path_moves.proofs.Planned.{into_told}
use Rattle.path_moves.proofs.into.leads_into_itself.Goals as goal

pub returns : goal.returns
returns c tree position same moves =
    into_told c.args.rows.now.pages tree c.args.page c.args.target position c.in-Some.own
    c.in-Some-path_of.goal c.begins.result same c.path_of.ensures.pages c.in-Some.ensures.value
    c.in-Some-path_of.ensures.value moves c.begins.ensures
