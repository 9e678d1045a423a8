-- What a change leaves of the lists, store by store. It speaks of no world, command or caller.
use Rattle.std.specs.Prelude.{ℕ, Bool, ◌+◌, ◌==◌, ◌&&◌, ◌||◌, not, List, [], ◌∷◌, ◌++◌, map, filter, take, drop, Option, Some, None}
use Rattle.std.specs.List.{list_any}
use Rattle.page_tree.specs.Rows.{Row, with_row}
use Rattle.step_path.specs.Path.{steps_of}
use Rattle.site_types.specs.declared.body.Body.{Body}
use Rattle.site_types.specs.declared.page_row.PageRow.{PageRow}
use Rattle.site_types.specs.declared.revision.Revision.{Revision}
use Rattle.site_types.specs.declared.world_rows.Grant.{Grant}
use Rattle.site_model.specs.Bodies.{same_number}
use Rattle.tree_model.specs.Changes.{path_in, with_urls}
use Rattle.page_store.specs.Changes.{with_body, with_slug, without_range}
use Rattle.page_store.specs.PageRows.{seen_row, parent_id}
use Rattle.page_store.specs.Relabelling.{relisted}
use Rattle.page_store.specs.Search.{begins}
use Rattle.page_store.specs.Settling.{settled}
use Rattle.page_store.specs.declared.plan.MovePlan.{MovePlan}
use Rattle.flat_model.specs.Lists.{PeopleLists, PartLists}
use Rattle.flat_model.specs.People.{members_with, grants_with}
use Rattle.flat_model.specs.declared.change.Change.{Change}
use Rattle.flat_model.specs.declared.change.TreeChange.{TreeChange}
use Rattle.flat_model.specs.declared.change.TreeChange.TheVariants as trees
use Rattle.flat_model.specs.declared.change.PeopleChange.{PeopleChange}
use Rattle.flat_model.specs.declared.change.PeopleChange.TheVariants as people
use Rattle.flat_model.specs.declared.change.FlowChange.{FlowChange}
use Rattle.flat_model.specs.declared.change.FlowChange.TheVariants as flows
use Rattle.flat_model.specs.declared.change.Purge.{Purge}

-- the rows of pages
abbrev pub Pages : Type 0
Pages = List (Row Body)

-- the rows with one more, which goes to its place in path order, below the page above its path
abbrev pub with_page : PageRow × List ℕ → Pages → Pages
with_page new rows = with_row (seen_row new.0 (parent_id (steps_of new.0.path) rows) new.1) rows

-- the rows with these more, one after the other
abbrev pub with_pages : List (PageRow × List ℕ) → Pages → Pages
with_pages [] rows = rows
with_pages (new ∷ more) rows = with_pages more (with_page new rows)

-- the rows whose path begins with this one
abbrev pub subtree : List ℕ → Pages → Pages
subtree path rows = filter (λ row. begins path row.path) rows

-- the rows that remain without these
abbrev pub outside : List ℕ → Pages → Pages
outside path rows = filter (λ row. not (begins path row.path)) rows

-- The rows with a subtree cut out and put in at its new place among those that remain, with the paths
-- and URLs that are listed: parents and child counts are those of the new paths.
abbrev pub with_move : MovePlan → List (ℕ × List ℕ) → Pages → Pages
with_move plan urls rows =
    let path = path_in plan.page rows in
    let rest = outside path rows in
    settled
    (map (relisted plan.rows urls)
    (take plan.place rest ++ (subtree path rows ++ drop plan.place rest)))

-- the rows with another slug for a page, and with the URLs that are listed
abbrev pub with_name : ℕ → List ℕ → List (ℕ × List ℕ) → Pages → Pages
with_name page slug urls rows =
    with_urls urls (with_slug page slug rows) (with_slug page slug rows)

-- what becomes of the rows
abbrev pub rows_made : TreeChange → Pages → Pages
rows_made trees.Nothing rows = rows
rows_made (trees.Insert new) rows = with_pages new rows
rows_made (trees.Move plan urls) rows = with_move plan urls rows
rows_made (trees.Delete page) rows = without_range page rows
rows_made (trees.Rename page slug urls) rows = with_name page slug urls rows

-- the rows where each of these pages has these fields
abbrev pub with_bodies : List (ℕ × Body) → Pages → Pages
with_bodies [] rows = rows
with_bodies (one ∷ more) rows = with_bodies more (with_body one.0 one.1 rows)

-- the items of all pages but these
abbrev pub of_others : {X : Type 0} → (X → ℕ) → List ℕ → List X → List X
of_others page gone items = filter (λ item. not (list_any (λ id. id == page item) gone)) items

-- the revisions of all pages but these
abbrev pub revisions_left : List ℕ → List Revision → List Revision
revisions_left gone revisions = of_others (λ (revision : Revision). revision.page) gone revisions

-- whether a purge leaves its page this revision: it needs it
abbrev pub needs_revision : Purge → ℕ → Bool
needs_revision purge id =
    same_number purge.shown (Some id)
    || (same_number purge.latest (Some id)
    || (same_number purge.scheduled (Some id) || same_number purge.moderated (Some id)))

-- the revisions that a purge leaves, if there is one
abbrev pub purge_left : Option Purge → List Revision → List Revision
purge_left None revisions = revisions
purge_left (Some purge) revisions =
    filter
    (λ revision. not ((revision.page == purge.page) && not (needs_revision purge revision.id)))
    revisions

-- users, groups, memberships and grants, without the grants at these pages
abbrev pub people_left : List ℕ → PeopleLists → PeopleLists
people_left gone lists =
    record lists { grants = of_others (λ (grant : Grant). grant.page) gone lists.grants }

-- what becomes of users, groups, memberships and grants
abbrev pub people_made : PeopleChange → PeopleLists → PeopleLists
people_made people.Nothing lists = lists
people_made (people.User superuser digest) lists =
    record lists {
      users = lists.users ++ record { superuser = superuser; digest = digest } ∷ [];
    }
people_made people.Group lists = record lists { next_group = lists.next_group + 1 }
people_made (people.Member user group on) lists =
    record lists { members = members_with lists.members user group on }
people_made (people.Grant group page permission on) lists =
    record lists { grants = grants_with lists.grants group page permission on }

-- the tasks, with one that comes last
abbrev pub tasks_made : FlowChange → List (List ℕ) → List (List ℕ)
tasks_made flows.Nothing tasks = tasks
tasks_made (flows.Task groups) tasks = tasks ++ groups ∷ []
tasks_made (flows.Workflow chain) tasks = tasks

-- the workflows, with one that comes last
abbrev pub workflows_made : FlowChange → List (List ℕ) → List (List ℕ)
workflows_made flows.Nothing workflows = workflows
workflows_made (flows.Task groups) workflows = workflows
workflows_made (flows.Workflow chain) workflows = workflows ++ chain ∷ []

-- The lists after a change: the rows change, and then fields of pages; what belongs to pages that go
-- goes, and what a purge takes; then revisions come, and users, groups, memberships and grants change,
-- and tasks and workflows.
abbrev pub made : Change → PartLists → PartLists
made change lists =
    record lists {
      pages = with_bodies change.bodies (rows_made change.tree lists.pages);
      revisions = purge_left change.purge (revisions_left change.gone lists.revisions)
          ++ change.revisions;
      people = people_made change.people (people_left change.gone lists.people);
      tasks = tasks_made change.flows lists.tasks;
      workflows = workflows_made change.flows lists.workflows;
      time = change.time;
      next_page = change.next_page;
      next_revision = change.next_revision;
    }
