-- What stands at the place tells whether the membership is there.
use Rattle.std.proofs.Common.{◌∙◌, sym, [], ◌∷◌}
use Rattle.site_model.specs.Users.{member_key, is_membership}
use Rattle.grants.proofs.MemberLemmas.{tests_member}
use Rattle.desk_pairs.proofs.SearchLemmas.{told_at_place}
use Rattle.grants.proofs.joining.find.Goals as goal

pub returns-then-is_at : goal.returns-then-is_at
returns-then-is_at c =
    let told = told_at_place member_key (c.args.user ∷ c.args.group ∷ [])
    (is_membership c.args.user c.args.group)
    c.args.members.now c.place_at-place.result (tests_member c.args.user c.args.group) c.requires
    c.place_at-place.ensures in
    rw (sym c.is_at.ensures ∙ c.if-is_at.true) at told

pub returns-else-is_at : goal.returns-else-is_at
returns-else-is_at c =
    let told = told_at_place member_key (c.args.user ∷ c.args.group ∷ [])
    (is_membership c.args.user c.args.group)
    c.args.members.now c.place_at-place.result (tests_member c.args.user c.args.group) c.requires
    c.place_at-place.ensures in
    rw (sym c.is_at.ensures ∙ c.if-is_at.false) at told
