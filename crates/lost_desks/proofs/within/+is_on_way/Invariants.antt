-- Each step up leads to a page that is less deep.
use Rattle.grants.proofs.UpLemmas.{depth_at}
use Rattle.lost_desks.proofs.within.+is_on_way.Given as goal

abbrev pub decreases-is_on_way : goal.decreases-is_on_way
decreases-is_on_way l = depth_at l.inner l.rows.now.pages
