-- Reading positions, permissions and the lists of ids that commands hold.
use Rattle.std.specs.Prelude.{ℕ, ◌==◌, ◌&&◌, nat_lt, nat_le, Bool, true, List, [], ◌∷◌, length, Option, Some, None, if◌then◌else◌}
use Rattle.std.specs.List.{list_all}
use Rattle.site_ids.specs.declared.ids.TheConstants.{LAST_GROUP_ID, LAST_TASK_ID}
use Rattle.site_types.specs.declared.position.Position.{Position}
use Rattle.site_types.specs.declared.position.Position.TheVariants.{FirstChild, LastChild, FirstSibling, Left, Right, LastSibling}
use Rattle.site_types.specs.declared.permission.Permission.{Permission}
use Rattle.site_types.specs.declared.permission.Permission.TheVariants.{Add, Change, Publish, BulkDelete, Lock, Unlock}
use Rattle.content_codec.specs.Reading.{◌>>=◌, kept, is_within, byte_at}
use Rattle.content_codec.specs.Fields.{numbers_at}

-- the position of a number
abbrev pub position_of : ℕ → Option Position
position_of n =
    if n == 1 then Some FirstChild
    else if n == 2 then Some LastChild
    else if n == 3 then Some FirstSibling
    else if n == 4 then Some Left
    else if n == 5 then Some Right
    else if n == 6 then Some LastSibling
    else None

-- a position
unfoldable pub position_at : List ℕ → Option (Position × List ℕ)
position_at bytes =
    byte_at bytes >>= λ n. position_of n.0 >>= λ position. Some (position, n.1)

-- the permission of a number
abbrev pub permission_of : ℕ → Option Permission
permission_of n =
    if n == 1 then Some Add
    else if n == 2 then Some Change
    else if n == 3 then Some Publish
    else if n == 4 then Some BulkDelete
    else if n == 5 then Some Lock
    else if n == 6 then Some Unlock
    else None

-- a permission
unfoldable pub permission_at : List ℕ → Option (Permission × List ℕ)
permission_at bytes =
    byte_at bytes >>= λ n. permission_of n.0 >>= λ permission. Some (permission, n.1)

-- whether numbers are ids of groups, each above the one before it and the first above `low`
abbrev pub rise_above : ℕ → List ℕ → Bool
rise_above low [] = true
rise_above low (id ∷ ids) = nat_lt low id && (nat_le id LAST_GROUP_ID && rise_above id ids)

-- whether numbers are the groups of a task
unfoldable pub are_groups : List ℕ → Bool
are_groups ids = is_within 1 16 (length ids) && rise_above 0 ids

-- whether numbers are the tasks of a workflow
unfoldable pub are_tasks : List ℕ → Bool
are_tasks ids = is_within 1 16 (length ids) && list_all (is_within 1 LAST_TASK_ID) ids

-- the groups of a task
unfoldable pub groups_at : List ℕ → Option (List ℕ × List ℕ)
groups_at bytes = kept are_groups (numbers_at bytes)

-- the tasks of a workflow
unfoldable pub tasks_at : List ℕ → Option (List ℕ × List ℕ)
tasks_at bytes = kept are_tasks (numbers_at bytes)
