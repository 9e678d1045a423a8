-- The form of a world, as its rows.
use Rattle.std.specs.Prelude.{ℕ, List, ◌++◌, length}
use Rattle.site_types.specs.declared.world_rows.UserRow.{UserRow}
use Rattle.site_types.specs.declared.world_rows.Member.{Member}
use Rattle.site_types.specs.declared.world_rows.Grant.{Grant}
use Rattle.site_types.specs.declared.world_rows.WorldRows.{WorldRows}
use Rattle.byte_forms.specs.Fields.{each_form, truth_form, id_form, u32_form, moment_form, ids_form}
use Rattle.byte_forms.specs.Commands.{permission_form}
use Rattle.byte_forms.specs.Rows.{row_form, revision_form, desk_form}

-- a user: whether the user is a superuser, and the digest
abbrev pub user_form : UserRow → List ℕ
user_form user = truth_form user.superuser ++ user.digest

-- a membership: user and group
abbrev pub member_form : Member → List ℕ
member_form member = id_form member.user ++ id_form member.group

-- a grant: page, group and permission
abbrev pub grant_form : Grant → List ℕ
grant_form grant = id_form grant.page ++ id_form grant.group ++ permission_form grant.permission

-- rows of one kind: their number in four bytes, and the rows
abbrev pub rows_form : {A : Type 0} → (A → List ℕ) → List A → List ℕ
rows_form form rows = u32_form (length rows) ++ each_form form rows

-- the time and the next ids
abbrev pub counters_form : WorldRows → List ℕ
counters_form rows =
    moment_form rows.time
    ++ u32_form rows.next_page ++ u32_form rows.next_revision ++ u32_form rows.next_user
    ++ u32_form rows.next_group ++ u32_form rows.next_task ++ u32_form rows.next_workflow

-- a world: the time and the next ids, which tell how many users, tasks and workflows there are;
-- these; and the rows of each other kind after their number
unfoldable pub world_form : WorldRows → List ℕ
world_form rows =
    counters_form rows
    ++ each_form user_form rows.users
    ++ each_form ids_form rows.tasks
    ++ each_form ids_form rows.workflows
    ++ rows_form member_form rows.members
    ++ rows_form grant_form rows.grants
    ++ rows_form row_form rows.pages
    ++ rows_form revision_form rows.revisions
    ++ rows_form desk_form rows.desks
