-- Each step up leads to a page that is less deep.
use Rattle.grants.proofs.UpLemmas.{depth_at}
use Rattle.lost_desks.proofs.moving.+granted_from.Given as goal

abbrev pub decreases-granted_from : goal.decreases-granted_from
decreases-granted_from l = depth_at l.page l.part.now.rows.pages
