-- All that is kept of a tree part, as plain lists and numbers.
use Rattle.std.specs.Prelude.{ℕ, List}
use Rattle.page_tree.specs.Rows.{Row}
use Rattle.site_types.specs.declared.body.Body.{Body}
use Rattle.site_types.specs.declared.revision.Revision.{Revision}
use Rattle.site_types.specs.declared.world_rows.UserRow.{UserRow}
use Rattle.site_types.specs.declared.world_rows.Member.{Member}
use Rattle.site_types.specs.declared.world_rows.Grant.{Grant}
use Rattle.site_model.specs.World.{DeskPair}

-- The users from 1 and the number of the next group; memberships and grants, rising by their keys.
pub record PeopleLists : Type 0 where
  pub users : List UserRow
  pub next_group : ℕ
  pub members : List Member
  pub grants : List Grant

-- The rows of the pages with their URLs, in path order; the revisions; the users and groups; the tasks
-- and the workflows from 1; the open desks without their texts; the time; and the next ids.
pub record PartLists : Type 0 where
  pub pages : List (Row Body)
  pub revisions : List Revision
  pub people : PeopleLists
  pub tasks : List (List ℕ)
  pub workflows : List (List ℕ)
  pub desk_pairs : List DeskPair
  pub time : ℕ
  pub next_page : ℕ
  pub next_revision : ℕ
