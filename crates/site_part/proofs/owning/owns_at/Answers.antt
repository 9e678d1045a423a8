-- The page at a place has its row, and the row its owner.
use Rattle.std.proofs.Common.{nat_eq}
use Rattle.site_part.proofs.OwnLemmas.{place_has_row, place_told}
use Rattle.site_part.proofs.owning.owns_at.Goals as goal

pub unreachable-requires : goal.unreachable-requires
unreachable-requires c =
    place_has_row c.args.rows.now.pages c.args.place c.in-Some.page c.len-len.ensures.pages
    c.in-Some.ensures c.in_default-row.ensures

pub returns : goal.returns
returns c =
    place_told (λ body. nat_eq body.owner c.args.user) c.args.rows.now.pages c.args.place
    c.in-Some.page c.in-Some-row.row.now c.eq.result c.len-len.ensures.pages c.in-Some.ensures
    c.in-Some-row.ensures c.eq.ensures
