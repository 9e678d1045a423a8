-- The page at a place has its row, and the row says whether it is live.
use Rattle.std.proofs.Common.{not, ap}
use Rattle.site_part.specs.Live.{is_live_in}
use Rattle.site_part.proofs.OwnLemmas.{place_has_row, place_told}
use Rattle.site_part.proofs.living.is_hidden_at.Goals as goal

pub unreachable-requires : goal.unreachable-requires
unreachable-requires c =
    place_has_row c.args.rows.now.pages c.args.place c.in-Some.page c.len-len.ensures.pages
    c.in-Some.ensures c.in_default-row.ensures

pub returns : goal.returns
returns c =
    place_told (λ body. not (is_live_in c.args.rows.now.pages body)) c.args.rows.now.pages
    c.args.place c.in-Some.page c.in-Some-row.row.now (not c.is_live.result)
    c.len-len.ensures.pages c.in-Some.ensures c.in-Some-row.ensures (ap not c.is_live.ensures)
