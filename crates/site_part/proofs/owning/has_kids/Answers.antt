-- The number of kids stands in the page's row.
use Rattle.site_part.proofs.OwnLemmas.{row_kids}
use Rattle.site_part.proofs.owning.has_kids.Goals as goal

pub returns : goal.returns
returns c tree same =
    row_kids c.args.rows.now.pages c.len-len.ensures.pages tree same c.args.page c.in-Some.row.now
    c.in-Some.ensures
