-- The rows of the page's range are those of the page and of all below it.
use Rattle.std.proofs.Common.{◌∙◌}
use Rattle.site_part.proofs.OwnLemmas.{range_owned}
use Rattle.site_part.proofs.owning.owns_all.Goals as goal

pub returns : goal.returns
returns c tree same =
    c.own_rows.ensures
    ∙ range_owned c.args.rows.now.pages c.len-len.ensures.pages tree same c.args.page c.args.user
    c.in-Some.place c.in-Some.count c.requires c.in-Some.ensures.range
