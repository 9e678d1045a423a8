-- Each step up leads to a page that is less deep.
use Rattle.slug_urls.proofs.UpLemmas.{depth_at}
use Rattle.slug_urls.proofs.upward.+bytes_up.Given as goal

abbrev pub decreases-bytes_up : goal.decreases-bytes_up
decreases-bytes_up l = depth_at l.id l.rows.now.pages
