-- What stands at the place tells whether the grant is there.
use Rattle.std.proofs.Common.{◌≡◌, ◌∙◌, sym}
use Rattle.desk_pairs.specs.Places.{place_of}
use Rattle.site_model.specs.Users.{grant_key, is_grant}
use Rattle.grants.proofs.GrantLemmas.{tests_grant}
use Rattle.desk_pairs.proofs.SearchLemmas.{told_at_place}
use Rattle.grants.proofs.granting.find.Goals as goal

pub returns-then-is_at : goal.returns-then-is_at
returns-then-is_at c =
    let grant = c.args.grant.now in
    let at : c.place_at-place.result ≡ place_of grant_key (grant_key grant) c.args.grants.now = cc in
    let told = told_at_place grant_key (grant_key grant) (is_grant grant.group grant.page grant.permission)
    c.args.grants.now c.place_at-place.result (tests_grant grant) c.requires at in
    rw (sym c.is_at.ensures ∙ c.if-is_at.true) at told

pub returns-else-is_at : goal.returns-else-is_at
returns-else-is_at c =
    let grant = c.args.grant.now in
    let at : c.place_at-place.result ≡ place_of grant_key (grant_key grant) c.args.grants.now = cc in
    let told = told_at_place grant_key (grant_key grant) (is_grant grant.group grant.page grant.permission)
    c.args.grants.now c.place_at-place.result (tests_grant grant) c.requires at in
    rw (sym c.is_at.ensures ∙ c.if-is_at.false) at told
