-- The row of a page says whether it is live.
use Rattle.site_part.proofs.LiveLemmas.{live_page_in, no_page_live}
use Rattle.site_part.proofs.living.is_live_page.Goals as goal

pub returns-in-Some : goal.returns-in-Some
returns-in-Some c tree same =
    live_page_in c.args.rows.now.pages tree same c.args.page c.in-Some.row.now c.is_live.result
    c.in-Some.ensures c.is_live.ensures

pub returns-in-None : goal.returns-in-None
returns-in-None c tree same =
    no_page_live c.args.rows.now.pages tree same c.args.page c.in-None.ensures
