-- Users, groups, memberships and grants: the commands on them, with their own rules in order, and
-- their effects. A command that a rule refuses for what it names, or for what it would leave as it
-- is, has no effect: so the rule on ids comes after those.
use Rattle.std.specs.Prelude.{ℕ, Bool, not, nat_lt, ◌==◌, ◌&&◌, ◌+◌, List, [], ◌∷◌, ◌++◌, length, filter, Option, if◌then◌else◌}
use Rattle.std.specs.List.{list_any}
use Rattle.std.specs.Option.{is_some}
use Rattle.page_tree.specs.Rows.{comes_before}
use Rattle.site_ids.specs.declared.ids.TheConstants.{LAST_USER_ID, LAST_GROUP_ID}
use Rattle.site_types.specs.declared.permission.Permission.{Permission}
use Rattle.site_types.specs.declared.refusal.Refusal.{Refusal}
use Rattle.site_types.specs.declared.refusal.Refusal.TheVariants.{IdsFull, NothingNew}
use Rattle.site_types.specs.declared.reply.Reply.TheVariants.{Done, Id}
use Rattle.site_types.specs.declared.world_rows.Member.{Member}
use Rattle.site_types.specs.declared.world_rows.Grant.{Grant}
use Rattle.site_model.specs.World.{TreePart, Deed, time_at}
use Rattle.site_model.specs.Limits.{MAX_GRANTS}
use Rattle.site_model.specs.Rules.{refused_if, first_of, no_user, no_group, ids_full}
use Rattle.site_model.specs.Rights.{permission_number, user_of}
use Rattle.site_model.specs.Create.{plain_deed}

module _ {Item : Type 0} where
  -- an item in its place in a list that rises by its keys
  abbrev pub put_in : (Item → List ℕ) → Item → List Item → List Item
  put_in key new [] = new ∷ []
  put_in key new (item ∷ items) =
      if comes_before (key new) (key item) then new ∷ item ∷ items else item ∷ put_in key new items

-- memberships rise by user and group
abbrev pub member_key : Member → List ℕ
member_key member = member.user ∷ member.group ∷ []

-- grants rise by page, group and permission
abbrev pub grant_key : Grant → List ℕ
grant_key grant = grant.page ∷ grant.group ∷ permission_number grant.permission ∷ []

-- the membership of a user in a group
abbrev pub membership : ℕ → ℕ → Member
membership user group = record { user = user; group = group }

-- the grant of a permission at a page to a group
abbrev pub grant_of : ℕ → ℕ → Permission → Grant
grant_of group page permission = record { page = page; group = group; permission = permission }

-- whether this is that membership
abbrev pub is_membership : ℕ → ℕ → Member → Bool
is_membership user group member = (member.user == user) && (member.group == group)

-- whether this is that grant
abbrev pub is_grant : ℕ → ℕ → Permission → Grant → Bool
is_grant group page permission grant =
    (grant.page == page)
    && ((grant.group == group)
    && (permission_number grant.permission == permission_number permission))

-- whether two truth values are the same
abbrev pub agree : Bool → Bool → Bool
agree one other = if one then other else not other

-- the rules of the definition of a user
abbrev pub user_rules : TreePart → List ℕ → Option Refusal
user_rules part digest =
    first_of
    (refused_if (is_some (user_of digest part.users)) NothingNew
    ∷ ids_full LAST_USER_ID part.next_user
    ∷ [])

-- the world with one user more
abbrev pub with_user : TreePart → ℕ → Bool → List ℕ → TreePart
with_user part now superuser digest =
    record part {
      time = time_at part now;
      next_user = part.next_user + 1;
      users = part.users ++ record { superuser = superuser; digest = digest } ∷ [];
    }

-- the definition of a user
abbrev pub define_user : TreePart → ℕ → Bool → List ℕ → Deed
define_user part now superuser digest =
    plain_deed (with_user part now superuser digest) (Id part.next_user)

-- the rule of the definition of a group
abbrev pub group_rules : TreePart → Option Refusal
group_rules part = ids_full LAST_GROUP_ID part.next_group

-- the world with one group more
abbrev pub with_group : TreePart → ℕ → TreePart
with_group part now =
    record part { time = time_at part now; next_group = part.next_group + 1 }

-- the definition of a group
abbrev pub define_group : TreePart → ℕ → Deed
define_group part now = plain_deed (with_group part now) (Id part.next_group)

-- the rules of a membership
abbrev pub member_rules : TreePart → ℕ → ℕ → Bool → Option Refusal
member_rules part user group on =
    first_of
    (refused_if (agree on (list_any (is_membership user group) part.members)) NothingNew
    ∷ no_user part user
    ∷ no_group part group
    ∷ [])

-- the memberships with this one, or without it
abbrev pub members_after : List Member → ℕ → ℕ → Bool → List Member
members_after members user group on =
    if on
    then put_in member_key (membership user group) members
    else filter (λ member. not (is_membership user group member)) members

-- the world where the user is a member of the group, or is none
abbrev pub with_member : TreePart → ℕ → ℕ → ℕ → Bool → TreePart
with_member part now user group on =
    record part {
      time = time_at part now;
      members = members_after part.members user group on;
    }

-- a membership that begins or ends
abbrev pub set_member : TreePart → ℕ → ℕ → ℕ → Bool → Deed
set_member part now user group on = plain_deed (with_member part now user group on) Done

-- the grants with this one, or without it
abbrev pub grants_after : List Grant → ℕ → ℕ → Permission → Bool → List Grant
grants_after grants group page permission on =
    if on
    then put_in grant_key (grant_of group page permission) grants
    else filter (λ grant. not (is_grant group page permission grant)) grants

-- the rules of a grant
abbrev pub grant_rules : TreePart → ℕ → ℕ → Permission → Bool → Option Refusal
grant_rules part group page permission on =
    first_of
    (refused_if (agree on (list_any (is_grant group page permission) part.grants)) NothingNew
    ∷ no_group part group
    ∷ refused_if
    (nat_lt MAX_GRANTS (length (grants_after part.grants group page permission on))) IdsFull
    ∷ [])

-- the world where the group has the permission at the page, or has it not
abbrev pub with_grant : TreePart → ℕ → ℕ → ℕ → Permission → Bool → TreePart
with_grant part now group page permission on =
    record part {
      time = time_at part now;
      grants = grants_after part.grants group page permission on;
    }

-- a grant that is given or withdrawn
abbrev pub set_grant : TreePart → ℕ → ℕ → ℕ → Permission → Bool → Deed
set_grant part now group page permission on =
    plain_deed (with_grant part now group page permission on) Done
