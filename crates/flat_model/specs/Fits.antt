-- Which changes lists can take: each part fits what the parts before it leave.
use Rattle.std.specs.Prelude.{◌≡◌, ℕ, ◌<◌, ◌≤◌, List, [], ◌∷◌, ◌++◌, length, None, Some, IsSome}
use Rattle.std.specs.List.{AllByRecursion}
use Rattle.page_tree.specs.Rows.{row_with}
use Rattle.site_ids.specs.Ids.{IsPageId}
use Rattle.site_ids.specs.declared.ids.TheConstants.{LAST_USER_ID, LAST_GROUP_ID, LAST_TASK_ID, LAST_WORKFLOW_ID}
use Rattle.site_types.specs.declared.body.Body.{Body}
use Rattle.site_types.specs.declared.page_row.PageRow.{PageRow}
use Rattle.site_types.specs.declared.revision.Revision.{Revision}
use Rattle.page_store.specs.Changes.{with_body, MayHaveSlug}
use Rattle.page_store.specs.PageRows.{IsNewRow}
use Rattle.page_store.specs.Pages.{ArePages}
use Rattle.page_store.specs.Relabelling.{AreListed, KeepParents}
use Rattle.page_store.specs.declared.plan.MovePlan.{MovePlan}
use Rattle.site_model.specs.Rights.{user_of}
use Rattle.tree_model.specs.Changes.{path_in}
use Rattle.publishing.specs.Laws.{IsUntimed}
use Rattle.workflow.specs.Flows.{IsTask, IsWorkflow}
use Rattle.flat_model.specs.Lists.{PeopleLists, PartLists}
use Rattle.flat_model.specs.Made.{Pages, with_page, with_move, outside, rows_made, people_left}
use Rattle.flat_model.specs.declared.change.Change.{Change}
use Rattle.flat_model.specs.declared.change.TreeChange.{TreeChange}
use Rattle.flat_model.specs.declared.change.TreeChange.TheVariants as trees
use Rattle.flat_model.specs.declared.change.PeopleChange.{PeopleChange}
use Rattle.flat_model.specs.declared.change.PeopleChange.TheVariants as people
use Rattle.flat_model.specs.declared.change.FlowChange.{FlowChange}
use Rattle.flat_model.specs.declared.change.FlowChange.TheVariants as flows

-- each new row may be put in when its turn comes, and is neither live nor scheduled
abbrev pub PagesFit : List (PageRow × List ℕ) → Pages → Type 0
PagesFit [] rows = Unit {0}
PagesFit (new ∷ more) rows =
    IsNewRow rows new.0 × IsUntimed new.0.body × PagesFit more (with_page new rows)

-- A move of a page that is there, to a place among the rows that remain: it lists pages that are
-- there, each once, and leaves the rows of a tree, where no page but the moved one has another parent.
pub record MoveFits (plan : MovePlan) (urls : List (ℕ × List ℕ)) (rows : Pages) : Type 0 where
  pub there : IsSome (row_with plan.page rows)
  pub within : plan.place ≤ length (outside (path_in plan.page rows) rows)
  pub paths : AreListed rows plan.rows
  pub urls_are : AreListed rows urls
  pub are_pages : ArePages (with_move plan urls rows)
  pub parents : KeepParents (Some plan.page) rows (with_move plan urls rows)

-- a change that rows can take
abbrev pub TreeFits : TreeChange → Pages → Type 0
TreeFits trees.Nothing rows = Unit {0}
TreeFits (trees.Insert new) rows = PagesFit new rows
TreeFits (trees.Move plan urls) rows = MoveFits plan urls rows
TreeFits (trees.Delete page) rows = IsSome (row_with page rows) × (page ≡ 1 → ⊥)
TreeFits (trees.Rename page slug urls) rows = MayHaveSlug rows page slug × AreListed rows urls

-- each page that gets other fields is there
abbrev pub BodiesFit : List (ℕ × Body) → Pages → Type 0
BodiesFit [] rows = Unit {0}
BodiesFit (one ∷ more) rows =
    IsSome (row_with one.0 rows) × BodiesFit more (with_body one.0 one.1 rows)

-- each new revision has a greater id than all before it
abbrev pub RevisionsFit : List Revision → List Revision → Type 0
RevisionsFit [] revisions = Unit {0}
RevisionsFit (new ∷ more) revisions =
    AllByRecursion (λ (older : Revision). older.id < new.id) revisions
    × RevisionsFit more (revisions ++ new ∷ [])

-- an id is left for a user or a group that comes, and no user has the new one's digest
abbrev pub PeopleFit : PeopleChange → PeopleLists → Type 0
PeopleFit people.Nothing lists = Unit {0}
PeopleFit (people.User superuser digest) lists =
    (length lists.users < LAST_USER_ID) × (user_of digest lists.users ≡ None)
PeopleFit people.Group lists = lists.next_group ≤ LAST_GROUP_ID
PeopleFit (people.Member user group on) lists = Unit {0}
PeopleFit (people.Grant group page permission on) lists = Unit {0}

-- an id is left for a task or a workflow that comes: a task has 1 to 16 distinct groups, rising, and a
-- workflow 1 to 16 tasks that are there
abbrev pub FlowsFit : FlowChange → PartLists → Type 0
FlowsFit flows.Nothing lists = Unit {0}
FlowsFit (flows.Task groups) lists = (length lists.tasks < LAST_TASK_ID) × IsTask groups
FlowsFit (flows.Workflow tasks) lists =
    (length lists.workflows < LAST_WORKFLOW_ID) × IsWorkflow (length lists.tasks) tasks

-- A change that lists can take. The revisions that come have greater ids than those that go, too.
pub record Fits (lists : PartLists) (change : Change) : Type 0 where
  pub tree : TreeFits change.tree lists.pages
  pub bodies : BodiesFit change.bodies (rows_made change.tree lists.pages)
  pub gone : AllByRecursion IsPageId change.gone
  pub revisions : RevisionsFit change.revisions lists.revisions
  pub people : PeopleFit change.people (people_left change.gone lists.people)
  pub flows : FlowsFit change.flows lists
