-- A page that is there is looked at.
use Rattle.site_part.proofs.LiveLemmas.{body_missing}
use Rattle.lost_desks.proofs.StayLemmas.{row_is_there}
use Rattle.lost_desks.proofs.WayLemmas.{nowhere}
use Rattle.lost_desks.proofs.within.is_within.Goals as goal

pub is_on_way-requires : goal.is_on_way-requires
is_on_way-requires c = row_is_there _ c.in-Some._row.now c.in-Some.ensures

pub returns-in-None : goal.returns-in-None
returns-in-None c tree same =
    nowhere tree c.args.page c.args.inner
    (body_missing c.args.rows.now.pages tree same c.args.inner c.in-None.ensures)
