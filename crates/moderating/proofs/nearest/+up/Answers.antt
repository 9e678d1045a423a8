-- The page above is less deep; the workflow is the page's own, or the nearest of the page above it.
use Rattle.std.proofs.Common.{rules}
use Rattle.tree_rows.proofs.Up.{parent_is_up}
use Rattle.moderating.proofs.NearestLemmas.{own_first, then_above, none_above}
use Rattle.moderating.proofs.nearest.+up.Goals as goal

pub up-requires : goal.up-requires
up-requires t c =
    let above = parent_is_up c.args.rows.now.pages c.len-len.ensures.pages c.args.page
    c.in-Some-parent.parent c.in-Some-parent.ensures in
    let there = above.there in
    let less = above.less_deep in
    search rules

pub returns-in-Some : goal.returns-in-Some
returns-in-Some t c tree same =
    own_first c.args.rows.now.pages c.len-len.ensures.pages c.args.page tree same c.in-Some.workflow
    c.requires c.in-Some.ensures

pub returns-in-Some-parent : goal.returns-in-Some-parent
returns-in-Some-parent t c tree same =
    then_above c.args.rows.now.pages c.len-len.ensures.pages c.args.page tree same
    c.in-Some-parent.parent c.up.result c.requires c.in-None.ensures c.in-Some-parent.ensures
    (c.up.ensures tree same)

pub returns-in-None-parent : goal.returns-in-None-parent
returns-in-None-parent t c tree same =
    none_above c.args.rows.now.pages c.len-len.ensures.pages c.args.page tree same c.requires
    c.in-None.ensures c.in-None-parent.ensures
