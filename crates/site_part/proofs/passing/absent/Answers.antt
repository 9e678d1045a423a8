-- A page that is there has a row.
use Rattle.site_part.proofs.PassingLemmas.{page_there, page_missing}
use Rattle.site_part.proofs.passing.absent.Goals as goal

pub returns-in-Some : goal.returns-in-Some
returns-in-Some c tree same =
    page_there c.args.rows.now.pages tree same c.args.page c.in-Some._row.now c.in-Some.ensures

pub returns-in-None : goal.returns-in-None
returns-in-None c tree same =
    page_missing c.args.rows.now.pages tree same c.args.page c.in-None.ensures
