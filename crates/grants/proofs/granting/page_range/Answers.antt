-- The least key of a page comes before that of the next.
use Rattle.std.proofs.Common.{◌+◌}
use Rattle.site_model.specs.Users.{grant_key}
use Rattle.desk_pairs.proofs.PlaceLemmas.{place_within}
use Rattle.grants.proofs.CutLemmas.{page_key, lower_page, place_ordered}
use Rattle.grants.proofs.granting.page_range.Goals as goal

pub returns-clause-ordered : goal.returns-clause-ordered
returns-clause-ordered c =
    let ordered = place_ordered grant_key (page_key c.args.page) (page_key (c.args.page + 1))
    (lower_page c.args.page) c.args.grants.now in
    rw (c.place_at-start.ensures, c.place_at-end.ensures, c.get-number.ensures.value) ordered

pub returns-clause-within : goal.returns-clause-within
returns-clause-within c =
    let within = place_within grant_key (page_key (c.get-number.result + 1)) c.args.grants.now in
    rw (c.place_at-end.ensures) within
