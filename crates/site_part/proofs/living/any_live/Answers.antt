-- The rows of the page's range are those of the page and of all below it.
use Rattle.site_part.proofs.LiveLemmas.{any_live_in}
use Rattle.site_part.proofs.living.any_live.Goals as goal

pub returns : goal.returns
returns c tree same =
    any_live_in c.args.rows.now.pages tree same c.args.page c.in-Some.place c.in-Some.count
    c.are_hidden.result c.len-len.ensures.pages c.requires c.in-Some.ensures.range
    c.are_hidden.ensures
