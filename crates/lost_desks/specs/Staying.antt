-- What decides whether an open desk stays: the pages, the rights, the moderations and the desks of a
-- world.
use Rattle.std.specs.Prelude.{◌≡◌, ℕ, Bool, true, false, ◌==◌, Option, Some, None}
use Rattle.page_tree.specs.Rows.{rows_of}
use Rattle.site_types.specs.declared.body.Body.{Body}
use Rattle.site_types.specs.declared.moderation.Moderation.{Moderation}
use Rattle.site_model.specs.World as worlds
use Rattle.site_model.specs.Rights.{rights_of, above_of}
use Rattle.site_model.specs.Views.{View, stage_of, is_in_progress}
use Rattle.site_model.specs.Desks.{keeps_desk}
use Rattle.workflow.specs.Flows.{FlowsStandFor}
use Rattle.grants.specs.Lists.{ListsStandFor}
use Rattle.site_part.specs.declared.part.TreePart.{TreePart}

-- What is in memory has the pages, the people, the grants, the tasks, the workflows and the open desks of
-- a world.
pub record HasDesksOf (world : worlds.TreePart) (kept : TreePart) : Type 0 where
  pub pages : kept.rows.pages ≡ rows_of world.tree
  pub lists : ListsStandFor kept.grants world
  pub flows : FlowsStandFor kept.flows world
  pub desks : kept.desk_pairs.pairs ≡ world.desk_pairs

-- whether no other user has locked what this user has locked
abbrev pub is_open_to : Option ℕ → ℕ → Bool
is_open_to None user = true
is_open_to (Some other) user = other == user

-- whether a page's moderation is in progress
abbrev pub is_underway : Option Moderation → Bool
is_underway None = false
is_underway (Some moderation) = is_in_progress moderation.status

-- what is seen of a page of which this is kept
abbrev pub seen_page : worlds.TreePart → ℕ → Body → View
seen_page world page body =
    record {
      above = above_of world.tree page;
      owner = body.owner;
      locked_by = body.locked_by;
      stage = stage_of world body.moderation;
    }

-- whether a user's desk stays on a page of which this is kept
abbrev pub keeps : worlds.TreePart → ℕ → ℕ → Body → Bool
keeps world page user body = keeps_desk (rights_of world user) (Some (seen_page world page body))
