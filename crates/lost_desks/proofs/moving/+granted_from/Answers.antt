-- The page above is less deep, and what is granted here comes to what is granted on the way to it.
use Rattle.std.proofs.Common.{sym, ◌∙◌, rules}
use Rattle.grants.proofs.UpLemmas.{parent_is_up}
use Rattle.lost_desks.proofs.BelowLemmas.{given_there, granted_alone, granted_above, within_parent, within_root}
use Rattle.lost_desks.proofs.moving.+granted_from.Goals as goal

pub granted_from-requires : goal.granted_from-requires
granted_from-requires t c =
    let up = parent_is_up c.args.part.now.rows.pages c.len-len.ensures.pages c.args.page
    c.in-Some.parent c.in-Some.ensures in
    let there = up.there in
    let less = up.less_deep in
    search rules

pub returns-then-eq : goal.returns-then-eq
returns-then-eq t c world has within =
    granted_alone c.args.part.now.rows.pages c.len-len.ensures.pages world has.pages c.args.top
    c.args.page c.args.user c.requires c.granted_here-here.result (sym c.eq.ensures ∙ c.if-eq.true)
    (given_there world c.args.part.now has c.args.page c.args.user c.granted_here-here.result
    c.granted_here-here.ensures)

pub returns-in-Some : goal.returns-in-Some
returns-in-Some t c world has within =
    let differ = sym c.eq.ensures ∙ c.if-eq.false in
    let above = within_parent c.args.part.now.rows.pages c.len-len.ensures.pages world has.pages
    c.args.top c.args.page c.args.user c.requires c.in-Some.parent c.in-Some.ensures differ within in
    c.either.ensures
    ∙ granted_above c.args.part.now.rows.pages c.len-len.ensures.pages world has.pages c.args.top
    c.args.page c.args.user c.requires c.in-Some.parent c.granted_from.result
    c.granted_here-here.result c.in-Some.ensures differ above
    (c.granted_from.ensures world has above)
    (given_there world c.args.part.now has c.args.page c.args.user c.granted_here-here.result
    c.granted_here-here.ensures)

pub returns-in-None : goal.returns-in-None
returns-in-None t c world has within =
    absurd (within_root c.args.part.now.rows.pages c.len-len.ensures.pages world has.pages c.args.top
    c.args.page c.args.user c.requires c.in-None.ensures (sym c.eq.ensures ∙ c.if-eq.false) within)
