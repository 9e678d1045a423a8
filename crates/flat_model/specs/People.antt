-- Memberships and grants with one that stands or does not.
use Rattle.std.specs.Prelude.{ℕ, Bool, List, if◌then◌else◌}
use Rattle.std.specs.List.{list_any}
use Rattle.site_types.specs.declared.permission.Permission.{Permission}
use Rattle.site_types.specs.declared.world_rows.Member.{Member}
use Rattle.site_types.specs.declared.world_rows.Grant.{Grant}
use Rattle.site_model.specs.Users.{agree, is_membership, is_grant, members_after, grants_after}

-- the memberships, where this one stands or does not: they stay where it is so already
abbrev pub members_with : List Member → ℕ → ℕ → Bool → List Member
members_with members user group on =
    if agree on (list_any (is_membership user group) members)
    then members
    else members_after members user group on

-- the grants, where this one stands or does not: they stay where it is so already
abbrev pub grants_with : List Grant → ℕ → ℕ → Permission → Bool → List Grant
grants_with grants group page permission on =
    if agree on (list_any (is_grant group page permission) grants)
    then grants
    else grants_after grants group page permission on
