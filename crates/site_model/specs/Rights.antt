-- What a user may do at a page: the permissions that are granted, at that page or at a page above
-- it, to a group of the user (Wagtail, page permissions).
use Rattle.std.specs.Prelude.{ℕ, zero, suc, Bool, false, ◌==◌, ◌&&◌, ◌||◌, List, [], ◌∷◌, map, filter, bytes_eq, Option, Some, None, if◌then◌else◌}
use Rattle.std.specs.List.{list_any}
use Rattle.page_tree.specs.Tree.{Forest}
use Rattle.page_tree.specs.Walk.{walk}
use Rattle.site_types.specs.declared.body.Body.{Body}
use Rattle.site_types.specs.declared.permission.Permission.{Permission}
use Rattle.site_types.specs.declared.permission.Permission.TheVariants.{Add, Change, Publish, BulkDelete, Lock, Unlock}
use Rattle.site_types.specs.declared.world_rows.UserRow.{UserRow}
use Rattle.site_types.specs.declared.world_rows.Member.{Member}
use Rattle.site_types.specs.declared.world_rows.Grant.{Grant}
use Rattle.site_model.specs.World.{TreePart}

-- the number of a permission, from 1 to 6
abbrev pub permission_number : Permission → ℕ
permission_number Add = 1
permission_number Change = 2
permission_number Publish = 3
permission_number BulkDelete = 4
permission_number Lock = 5
permission_number Unlock = 6

-- whether two permissions are the same
abbrev pub is_same : Permission → Permission → Bool
is_same permission other = permission_number permission == permission_number other

-- the user with this number; the users are numbered from 1 in their order
abbrev pub user_at : List UserRow → ℕ → Option UserRow
user_at [] number = None
user_at (user ∷ users) zero = None
user_at (user ∷ users) (suc zero) = Some user
user_at (user ∷ users) (suc (suc number)) = user_at users (suc number)

-- whether the user is there and is a superuser
abbrev pub is_super : Option UserRow → Bool
is_super None = false
is_super (Some user) = user.superuser

-- user 0, the scheduler, counts as a superuser
abbrev pub is_superuser : List UserRow → ℕ → Bool
is_superuser users number = (number == 0) || is_super (user_at users number)

-- the first user from this number on whose token has the digest
abbrev pub user_from : ℕ → List ℕ → List UserRow → Option ℕ
user_from number digest [] = None
user_from number digest (user ∷ users) =
    if bytes_eq user.digest digest then Some number else user_from (suc number) digest users

-- the user whose token has the digest
abbrev pub user_of : List ℕ → List UserRow → Option ℕ
user_of digest users = user_from 1 digest users

-- the groups of a user
abbrev pub groups_of : List Member → ℕ → List ℕ
groups_of members user =
    map (λ member. member.group) (filter (λ member. member.user == user) members)

-- whether one of the groups is this one
abbrev pub has_group : List ℕ → ℕ → Bool
has_group groups id = list_any (λ group. group == id) groups

-- What a user brings to every page: the number, whether a superuser, the groups, and what is
-- granted to these.
pub record Rights : Type 0 where
  pub user : ℕ
  pub super : Bool
  pub groups : List ℕ
  pub granted : List Grant

-- the rights of a user
abbrev pub rights_of : TreePart → ℕ → Rights
rights_of part user =
    let groups = groups_of part.members user in
    record {
      user = user;
      super = is_superuser part.users user;
      groups = groups;
      granted = filter (λ grant. has_group groups grant.group) part.grants;
    }

-- whether a grant is of the permission at the page
abbrev pub permits : Permission → ℕ → Grant → Bool
permits permission page grant = (grant.page == page) && is_same grant.permission permission

-- Whether a user with these rights holds the permission at a page, where these pages are on the
-- walk from the root to it: a superuser holds every one everywhere, and nobody else holds one that
-- was not granted.
abbrev pub holds : Rights → Permission → List ℕ → Bool
holds rights permission above =
    rights.super || list_any (λ page. list_any (permits permission page) rights.granted) above

-- the pages on the walk from the root to a page, that page included
abbrev pub above_of : Forest Body → ℕ → List ℕ
above_of tree page = map (λ visit. visit.id) (walk page tree)

-- whether the user holds the permission at the page
abbrev pub has : TreePart → ℕ → Permission → ℕ → Bool
has part user permission page = holds (rights_of part user) permission (above_of part.tree page)

-- The six permissions, each with whether it is held.
pub record Held : Type 0 where
  pub add : Bool
  pub change : Bool
  pub publish : Bool
  pub bulk_delete : Bool
  pub lock : Bool
  pub unlock : Bool

-- what the user holds at the page
abbrev pub held : TreePart → ℕ → ℕ → Held
held part user page =
    record {
      add = has part user Add page;
      change = has part user Change page;
      publish = has part user Publish page;
      bulk_delete = has part user BulkDelete page;
      lock = has part user Lock page;
      unlock = has part user Unlock page;
    }

-- whether a grant gives one of the groups the permission at the page
abbrev pub gives : List ℕ → Permission → ℕ → Grant → Bool
gives groups permission page grant =
    (grant.page == page)
    && (is_same grant.permission permission && list_any (λ group. group == grant.group) groups)

-- Whether the user has been granted the permission, as one reads it: one of the user's groups has
-- it at a page on the walk from the root to the page. The law `held_by_walks` says that this and
-- being a superuser are all that `has` tells.
abbrev pub is_granted : TreePart → ℕ → Permission → ℕ → Bool
is_granted part user permission page =
    let groups = groups_of part.members user in
    list_any (λ visit. list_any (gives groups permission visit.id) part.grants)
    (walk page part.tree)
