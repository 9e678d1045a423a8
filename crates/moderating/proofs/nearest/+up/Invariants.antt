-- Each step up leads to a page that is less deep.
use Rattle.tree_rows.proofs.Up.{depth_at}
use Rattle.moderating.proofs.nearest.+up.Given as goal

abbrev pub decreases-up : goal.decreases-up
decreases-up l = depth_at l.page l.rows.now.pages
