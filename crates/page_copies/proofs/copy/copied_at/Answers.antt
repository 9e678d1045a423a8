-- The row of the page at the place has what is kept of it.
use Rattle.site_part.proofs.OwnLemmas.{place_has_row}
use Rattle.page_copies.proofs.CopyLemmas.{not_missing, pair_is}
use Rattle.page_copies.proofs.copy.copied_at.Goals as goal

pub unreachable-requires-in_default-row : goal.unreachable-requires-in_default-row
unreachable-requires-in_default-row c =
    place_has_row c.args.rows.now.pages c.args.place c.in-Some.page c.len-len.ensures.pages
    c.in-Some.ensures c.in_default-row.ensures

pub unreachable-requires-in_default-copied_content :
    goal.unreachable-requires-in_default-copied_content
unreachable-requires-in_default-copied_content c =
    not_missing c.requires.there.0 c.args.rows.now.pages c.args.place c.in-Some.page
    c.in-Some-row.row.now c.len-len.ensures.pages c.in-Some.ensures c.in-Some-row.ensures
    c.requires.there.2 (c.in_default-copied_content.ensures c.requires.there.0 c.requires.there.1)

pub returns : goal.returns
returns c = λ part stand.
    pair_is part c.args.rows.now.pages c.args.place c.in-Some.page c.in-Some-row.row.now
    c.in-Some-copied_content.content.now c.in_ok-content.content c.len-len.ensures.pages
    c.in-Some.ensures c.in-Some-row.ensures (c.in-Some-copied_content.ensures part stand)
    c.in_ok-content.ensures
