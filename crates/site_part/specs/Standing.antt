-- How the tree part in memory stands for a world's.
use Rattle.std.specs.Prelude.{◌≡◌, ◌+◌}
use Rattle.page_tree.specs.Rows.{rows_of}
use Rattle.site_model.specs.World as worlds
use Rattle.site_model.specs.Reached.{IsReachedPart}
use Rattle.flat_model.specs.Lists.{PeopleLists, PartLists}
use Rattle.workflow.specs.Flows.{FlowsStandFor, SameFlows}
use Rattle.publishing.specs.Times.{AreTimed}
use Rattle.link_plans.specs.PageLinks.{AreAliases, AreLinked}
use Rattle.site_part.specs.declared.part.TreePart.{TreePart}
use Rattle.grants.specs.Lists.{GrantLists, SameLists, ListsStandFor}

-- users, groups, memberships and grants in memory, as lists
abbrev pub seen_people : GrantLists → PeopleLists
seen_people kept =
    record {
      users = kept.users;
      next_group = kept.groups + 1;
      members = kept.members;
      grants = kept.grants;
    }

-- what is in memory, as lists
abbrev pub seen : TreePart → PartLists
seen kept =
    record {
      pages = kept.rows.pages;
      revisions = kept.shelf.revisions;
      people = seen_people kept.grants;
      tasks = kept.flows.tasks;
      workflows = kept.flows.workflows;
      desk_pairs = kept.desk_pairs.pairs;
      time = kept.time;
      next_page = kept.next_page;
      next_revision = kept.next_revision;
    }

-- What is found fast is in step with the rows and the revisions: the tables have the moments of the
-- pages, and the pairs of sources and aliases are those of the pages.
pub record InStep (kept : TreePart) : Type 0 where
  pub timed : AreTimed kept.times kept.rows.pages kept.shelf.revisions
  pub aliased : AreAliases kept.aliases.pairs kept.rows.pages

-- the pairs of pages that are linked to and of those that link to them are in step with the rows
-- and the revisions
abbrev pub IsLinked : TreePart → Type 0
IsLinked kept = AreLinked kept.links.pairs kept.rows.pages kept.shelf.revisions

-- what is found fast is as it was
pub record SameIndexes (before after : TreePart) : Type 0 where
  pub expiries : after.times.expiries.entries ≡ before.times.expiries.entries
  pub go_lives : after.times.go_lives.entries ≡ before.times.go_lives.entries
  pub aliases : after.aliases.pairs ≡ before.aliases.pairs
  pub links : after.links.pairs ≡ before.links.pairs

-- all but the room is as it was
pub record IsSame (before after : TreePart) : Type 0 where
  pub pages : after.rows.pages ≡ before.rows.pages
  pub revisions : after.shelf.revisions ≡ before.shelf.revisions
  pub lists : SameLists before.grants after.grants
  pub flows : SameFlows before.flows after.flows
  pub desks : after.desk_pairs.pairs ≡ before.desk_pairs.pairs
  pub time : after.time ≡ before.time
  pub next_page : after.next_page ≡ before.next_page
  pub next_revision : after.next_revision ≡ before.next_revision
  pub indexes : SameIndexes before after

-- What is in memory is what the world has: the rows of its tree, the revisions, the users, groups,
-- memberships and grants, the tasks and workflows, the open desks, the time and the next ids; and what is
-- found fast is in step with them.
pub record StandsFor (kept : TreePart) (part : worlds.TreePart) : Type 0 where
  pub pages : kept.rows.pages ≡ rows_of part.tree
  pub revisions : kept.shelf.revisions ≡ part.revisions
  pub lists : ListsStandFor kept.grants part
  pub flows : FlowsStandFor kept.flows part
  pub desks : kept.desk_pairs.pairs ≡ part.desk_pairs
  pub time : kept.time ≡ part.time
  pub next_page : kept.next_page ≡ part.next_page
  pub next_revision : kept.next_revision ≡ part.next_revision
  pub in_step : InStep kept
  pub linked : IsLinked kept

-- What is in memory stands for a world that commands reach.
pub record IsReady (kept : TreePart) (part : worlds.TreePart) : Type 0 where
  pub stands : StandsFor kept part
  pub reached : IsReachedPart part
