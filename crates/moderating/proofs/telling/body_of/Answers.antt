-- A row has what is kept of its page.
use Rattle.std.proofs.Common.{sym}
use Rattle.site_part.proofs.LiveLemmas.{body_found, body_missing}
use Rattle.moderating.proofs.telling.body_of.Goals as goal

pub returns-in-Some : goal.returns-in-Some
returns-in-Some c = λ tree is.
    sym (body_found c.args.rows.now.pages tree is c.args.page c.in-Some.row.now c.in-Some.ensures)

pub returns-in-None : goal.returns-in-None
returns-in-None c = λ tree is.
    sym (body_missing c.args.rows.now.pages tree is c.args.page c.in-None.ensures)
