-- Each step up leads to a page that is less deep.
use Rattle.grants.proofs.UpLemmas.{depth_at}
use Rattle.grants.proofs.right.+granted_up.Given as goal

abbrev pub decreases-granted_up : goal.decreases-granted_up
decreases-granted_up l = depth_at l.page l.rows.now.pages
