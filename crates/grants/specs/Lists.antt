-- What the users, groups, memberships and grants are seen as, and how they stand for a world's.
use Rattle.std.specs.Prelude.{◌≡◌, ℕ, ◌+◌, List}
use Rattle.site_types.specs.declared.world_rows.UserRow.{UserRow}
use Rattle.site_types.specs.declared.world_rows.Member.{Member}
use Rattle.site_types.specs.declared.world_rows.Grant.{Grant}
use Rattle.site_model.specs.World.{TreePart}

-- The users from 1, the number of groups, the memberships and the grants, rising; and how many more
-- of each can be put in without taking memory.
pub record GrantLists : Type 0 where
  pub users : List UserRow
  pub groups : ℕ
  pub members : List Member
  pub grants : List Grant
  pub spare : ℕ

-- all but the room is as it was
pub record SameLists (before after : GrantLists) : Type 0 where
  pub users : after.users ≡ before.users
  pub groups : after.groups ≡ before.groups
  pub members : after.members ≡ before.members
  pub grants : after.grants ≡ before.grants

-- the lists are those of a world
pub record ListsStandFor (kept : GrantLists) (part : TreePart) : Type 0 where
  pub users : kept.users ≡ part.users
  pub groups : kept.groups + 1 ≡ part.next_group
  pub members : kept.members ≡ part.members
  pub grants : kept.grants ≡ part.grants
