-- A page is on the way if it is the last page, or on the way to the page above that.
use Rattle.std.proofs.Common.{sym, ◌∙◌, rules}
use Rattle.grants.proofs.UpLemmas.{parent_is_up}
use Rattle.lost_desks.proofs.WayLemmas.{within_here, within_above, within_alone}
use Rattle.lost_desks.proofs.within.+is_on_way.Goals as goal

pub is_on_way-requires : goal.is_on_way-requires
is_on_way-requires t c =
    let up = parent_is_up c.args.rows.now.pages c.len-len.ensures.pages c.args.inner c.in-Some.parent
    c.in-Some.ensures in
    let there = up.there in
    let less = up.less_deep in
    search rules

pub returns-then-eq : goal.returns-then-eq
returns-then-eq t c tree same =
    within_here c.args.rows.now.pages c.len-len.ensures.pages tree same c.args.page c.args.inner
    c.requires (sym c.eq.ensures ∙ c.if-eq.true)

pub returns-in-Some : goal.returns-in-Some
returns-in-Some t c tree same =
    within_above c.args.rows.now.pages c.len-len.ensures.pages tree same c.args.page c.args.inner
    c.requires c.in-Some.parent c.is_on_way.result c.in-Some.ensures
    (sym c.eq.ensures ∙ c.if-eq.false) (c.is_on_way.ensures tree same)

pub returns-in-None : goal.returns-in-None
returns-in-None t c tree same =
    within_alone c.args.rows.now.pages c.len-len.ensures.pages tree same c.args.page c.args.inner
    c.requires c.in-None.ensures (sym c.eq.ensures ∙ c.if-eq.false)
