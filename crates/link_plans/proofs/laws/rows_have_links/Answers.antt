-- What a page links to is told by its row.
use Rattle.link_plans.proofs.ModelLemmas.{rows_links}
use Rattle.link_plans.proofs.laws.rows_have_links.Goals as goal

pub returns : goal.returns
returns c = λ part page linked. rows_links part page linked
