-- How users, memberships and grants are kept.
use Rattle.std.specs.Prelude.{◌≡◌, ℕ, ◌≤◌, List, length, bytes_eq}
use Rattle.std.specs.Map.{lookup}
use Rattle.site_ids.specs.declared.ids.TheConstants.{LAST_USER_ID, LAST_GROUP_ID}
use Rattle.site_types.specs.declared.world_rows.UserRow.{UserRow}
use Rattle.site_types.specs.declared.world_rows.Member.{Member}
use Rattle.site_types.specs.declared.world_rows.Grant.{Grant}
use Rattle.site_model.specs.Rights.{user_of}
use Rattle.site_model.specs.Sound.{KeysRise}
use Rattle.site_model.specs.Users.{member_key, grant_key}

-- Each user is found by the digest; memberships and grants rise, so that none stands twice.
pub record IsKept (users : List UserRow) (numbers : List (List ℕ × ℕ)) (groups : ℕ)
    (members : List Member) (grants : List Grant) : Type 0 where
  pub found : (digest : List ℕ) → lookup (bytes_eq digest) numbers ≡ user_of digest users
  pub user_count : length users ≤ LAST_USER_ID
  pub group_count : groups ≤ LAST_GROUP_ID
  pub members_rise : KeysRise member_key members
  pub grants_rise : KeysRise grant_key grants
