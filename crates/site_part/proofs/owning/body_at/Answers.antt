-- The row of a page has what is kept of it.
use Rattle.site_part.proofs.LiveLemmas.{body_found}
use Rattle.site_part.proofs.owning.body_at.Goals as goal

pub returns : goal.returns
returns c tree same =
    body_found c.args.rows.now.pages tree same c.args.page c.in-Some.row.now c.in-Some.ensures
