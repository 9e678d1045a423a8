-- What is kept of the page decides.
use Rattle.std.proofs.Common.{◌∙◌}
use Rattle.site_part.proofs.LiveLemmas.{body_found, body_missing}
use Rattle.lost_desks.proofs.StayLemmas.{gone_loses, stays_by}
use Rattle.lost_desks.proofs.staying.stays.Goals as goal

pub returns-in_default : goal.returns-in_default
returns-in_default c world has =
    gone_loses world c.args.page c.args.user
    (body_missing c.args.part.now.rows.pages world.tree has.pages c.args.page c.in_default.ensures)

pub returns : goal.returns
returns c world has =
    c.may_work.ensures world has
    ∙ stays_by world c.args.page c.args.user c.in-Some.row.now.body
    (body_found c.args.part.now.rows.pages world.tree has.pages c.args.page c.in-Some.row.now
    c.in-Some.ensures)
