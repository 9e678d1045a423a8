-- Row by row.
use Rattle.link_plans.proofs.TellLemmas.{told_rows}
use Rattle.link_plans.proofs.laws.new_rows_are_told.Goals as goal

pub returns : goal.returns
returns c = λ new pages fits page. told_rows new pages fits page
