-- What holds of every world: a sound world, by its tree, its revisions, what is kept of its pages,
-- its people, its tasks, its grants and its desks.
use Rattle.std.specs.Prelude.{◌≡◌, ℕ, Bool, true, false, ◌+◌, ◌<◌, ◌≤◌, ◌==◌, ◌&&◌, List, [], ◌∷◌, length, map, bytes_eq, Option, Some, None, IfSome}
use Rattle.std.specs.List.{AllByRecursion, list_any}
use Rattle.page_tree.specs.Tree.{Forest, HasDistinctIds, AreRising, has_page}
use Rattle.page_tree.specs.Rows.{Row, rows_of, comes_before}
use Rattle.step_path.specs.declared.step.TheConstants.{LAST_STEP}
use Rattle.step_path.specs.declared.path.TheConstants.{MAX_DEPTH}
use Rattle.site_ids.specs.declared.digest.TheConstants.{DIGEST_BYTES}
use Rattle.site_ids.specs.declared.ids.TheConstants.{LAST_PAGE_ID, LAST_REVISION_ID, LAST_USER_ID, LAST_GROUP_ID, LAST_TASK_ID, LAST_WORKFLOW_ID}
use Rattle.site_ids.specs.Moment.{IsMoment}
use Rattle.site_ids.specs.Slug.{IsSlug}
use Rattle.site_types.specs.Content.{FitsLimits}
use Rattle.site_types.specs.RootBody.{root_body}
use Rattle.site_types.specs.declared.body.Body.{Body}
use Rattle.site_types.specs.declared.moderation.Moderation.{Moderation}
use Rattle.site_types.specs.declared.revision.Revision.{Revision}
use Rattle.site_types.specs.declared.world_rows.UserRow.{UserRow}
use Rattle.site_types.specs.declared.world_rows.Member.{Member}
use Rattle.site_types.specs.declared.world_rows.Grant.{Grant}
use Rattle.tree_model.specs.Limits.{MAX_URL, height}
use Rattle.tree_model.specs.Shape.{IsWhole, AllPages, AreWithin, SlugsDiffer}
use Rattle.site_model.specs.World.{DeskPair, Desk, TreePart, World, pair_of}
use Rattle.site_model.specs.Limits.{MAX_GRANTS, MAX_CONTENTS, MAX_DESKS, MAX_NAMED, contents_length}
use Rattle.site_model.specs.Views.{list_at}
use Rattle.site_model.specs.Users.{member_key, grant_key}
use Rattle.site_model.specs.Desks.{desk_key, stays}

-- an id has been given out where it is at least 1 and below the next one
abbrev pub IsGiven : ℕ → ℕ → Type 0
IsGiven next id = (1 ≤ id) × (id < next)

-- the next id is at least 1, and at most one above the last that there is
abbrev pub IsNext : ℕ → ℕ → Type 0
IsNext last next = (1 ≤ next) × (next ≤ last + 1)

module _ {Item : Type 0} where
  -- the keys rise: each item comes before all that stand after it, so that none stands twice
  abbrev pub KeysRise : (Item → List ℕ) → List Item → Type 0
  KeysRise key [] = Unit {0}
  KeysRise key (item ∷ items) =
      AllByRecursion (λ (later : Item). comes_before (key item) (key later) ≡ true) items
      × KeysRise key items

-- The tree of pages.
pub record IsTree (pages : Forest Body) (next : ℕ) : Type 0 where
  -- the root stands alone at the top, and no two pages have one id
  pub whole : IsWhole pages
  pub distinct : HasDistinctIds pages
  -- ids are given out in order
  pub next_page : IsNext LAST_PAGE_ID next
  pub page_ids : AllPages (λ id slug body. IsGiven next id) pages
  -- the steps of siblings rise, and none is above the last
  pub rising : AreRising 0 pages
  pub steps : AreWithin LAST_STEP pages
  -- no page has more steps than a path may have, and no URL is too long
  pub depth : height pages ≤ MAX_DEPTH
  pub urls : AllByRecursion (λ (row : Row Body). length row.url ≤ MAX_URL) (rows_of pages)
  -- each page but the root has a slug, which no sibling of it has
  pub slugs : AllPages (λ id slug body. (id ≡ 1 → ⊥) → IsSlug slug) pages
  pub siblings : SlugsDiffer pages

-- the ids of the revisions rise, from above this one on
abbrev pub IdsRise : ℕ → List Revision → Type 0
IdsRise before [] = Unit {0}
IdsRise before (revision ∷ revisions) =
    (before < revision.id) × IdsRise revision.id revisions

-- The moments of a revision are moments.
pub record HasMoments (revision : Revision) : Type 0 where
  pub made : IsMoment revision.made
  pub go_live : IfSome revision.go_live IsMoment
  pub expire : IfSome revision.expire IsMoment

-- The revisions, beside these pages and users.
pub record AreRevisions (pages : Forest Body) (revisions : List Revision) (next users : ℕ) :
    Type 0 where
  -- they stand in the order of their ids, which are given out in order
  pub next_revision : IsNext LAST_REVISION_ID next
  pub revision_ids : AllByRecursion (λ (revision : Revision). revision.id < next) revisions
  pub revisions_rise : IdsRise 0 revisions
  -- each is of a page that is there, and not of the root
  pub revisions_have_pages :
      AllByRecursion (λ (revision : Revision). has_page revision.page pages ≡ true) revisions
  pub revisions_below_root :
      AllByRecursion (λ (revision : Revision). revision.page ≡ 1 → ⊥) revisions
  -- each has an author, moments and a content within its limits; the contents have room together
  pub authors : AllByRecursion (λ (revision : Revision). revision.by < users) revisions
  pub moments : AllByRecursion HasMoments revisions
  pub contents : AllByRecursion (λ (revision : Revision). FitsLimits revision.content) revisions
  pub contents_fit : contents_length revisions ≤ MAX_CONTENTS

-- whether this is a revision of the page
abbrev pub is_own : List Revision → ℕ → Option ℕ → Bool
is_own revisions page None = false
is_own revisions page (Some id) =
    list_any (λ revision. (revision.id == id) && (revision.page == page)) revisions

-- a number is at most this one, where there is one
abbrev pub IsAtMost : ℕ → Option ℕ → Type 0
IsAtMost id None = ⊥
IsAtMost id (Some last) = id ≤ last

-- no revision of the page is later than this one
abbrev pub IsLatest : List Revision → ℕ → Option ℕ → Type 0
IsLatest revisions page latest =
    AllByRecursion
    (λ (revision : Revision). revision.page ≡ page → IsAtMost revision.id latest) revisions

-- whether this is a revision of the page with a moment to go live
abbrev pub may_wait : List Revision → ℕ → ℕ → Bool
may_wait revisions page id =
    list_any
    (λ revision. (revision.id == id) && ((revision.page == page) && has_moment revision.go_live))
    revisions
  where
    has_moment : Option ℕ → Bool
    has_moment None = false
    has_moment (Some moment) = true

-- A regular page: the revision that it shows and the latest one are its own, the latest has the
-- greatest id of all of its own, and the scheduled one, where there is one, is its own and has a
-- moment to go live.
pub record HasOwn (revisions : List Revision) (page : ℕ) (body : Body) : Type 0 where
  pub shown : is_own revisions page body.shown ≡ true
  pub latest : is_own revisions page body.latest ≡ true
  pub last : IsLatest revisions page body.latest
  pub scheduled : IfSome body.scheduled (λ id. may_wait revisions page id ≡ true)

-- An alias has nothing of its own but its owner and its workflow.
pub record IsAliasBody (revisions : List Revision) (page : ℕ) (body : Body) : Type 0 where
  pub no_revision : AllByRecursion (λ (revision : Revision). revision.page ≡ page → ⊥) revisions
  pub live : body.live ≡ false
  pub expired : body.expired ≡ false
  pub shown : body.shown ≡ None
  pub latest : body.latest ≡ None
  pub scheduled : body.scheduled ≡ None
  pub first_published : body.first_published ≡ None
  pub last_published : body.last_published ≡ None
  pub locked_by : body.locked_by ≡ None
  pub moderation : body.moderation ≡ None

-- A moderation names a workflow, a task that it counts within it, a revision of its page, and who
-- submitted it.
pub record FitsModeration (revisions : List Revision) (users next : ℕ) (workflows : List (List ℕ))
    (page : ℕ) (moderation : Moderation) : Type 0 where
  pub workflow : IsGiven next moderation.workflow
  pub task_counted : 1 ≤ moderation.task
  pub task_within : moderation.task ≤ length (list_at workflows moderation.workflow)
  pub revision : is_own revisions page (Some moderation.revision) ≡ true
  pub by : moderation.by < users

-- What is kept of a page, beside these revisions, users and workflows.
pub record IsBody (revisions : List Revision) (users next : ℕ) (workflows : List (List ℕ)) (id : ℕ)
    (body : Body) : Type 0 where
  -- the root has nothing but its workflow
  pub root : id ≡ 1 → body ≡ record root_body { workflow = body.workflow }
  pub regular : (id ≡ 1 → ⊥) → body.source ≡ None → HasOwn revisions id body
  pub alias : IfSome body.source (λ source. IsAliasBody revisions id body)
  -- what it names exists, and its moments are moments
  pub owner : body.owner < users
  pub lock : IfSome body.locked_by (IsGiven users)
  pub assigned : IfSome body.workflow (IsGiven next)
  pub moderation : IfSome body.moderation (FitsModeration revisions users next workflows id)
  pub first_published : IfSome body.first_published IsMoment
  pub last_published : IfSome body.last_published IsMoment

-- a regular page other than the root
abbrev pub IsRegular : Forest Body → ℕ → Type 0
IsRegular pages page =
    (page ≡ 1 → ⊥) × (has_page page pages ≡ true)
    × AllPages (λ id slug body. id ≡ page → body.source ≡ None) pages

-- What is kept of all pages.
pub record AreBodies (pages : Forest Body) (revisions : List Revision) (users next : ℕ)
    (workflows : List (List ℕ)) : Type 0 where
  pub bodies : AllPages (λ id slug body. IsBody revisions users next workflows id body) pages
  -- an alias has a regular page other than the root as its source
  pub sources : AllPages (λ id slug body. IfSome body.source (IsRegular pages)) pages

-- no two users have one digest
abbrev pub DigestsDiffer : List UserRow → Type 0
DigestsDiffer [] = Unit {0}
DigestsDiffer (user ∷ users) =
    AllByRecursion (λ (other : UserRow). bytes_eq user.digest other.digest ≡ false) users
    × DigestsDiffer users

-- the membership is of a user and a group that are there
abbrev pub NamesBoth : ℕ → ℕ → Member → Type 0
NamesBoth users groups member = IsGiven users member.user × IsGiven groups member.group

-- Users and groups, by the next ids of both.
pub record ArePeople (users : List UserRow) (members : List Member) (next groups : ℕ) :
    Type 0 where
  -- ids are given out in order, and users are numbered without a hole
  pub next_user : IsNext LAST_USER_ID next
  pub next_group : IsNext LAST_GROUP_ID groups
  pub numbered : next ≡ length users + 1
  -- a digest has its bytes, and is one user's alone
  pub digests_fit : AllByRecursion (λ (user : UserRow). length user.digest ≡ DIGEST_BYTES) users
  pub digests : DigestsDiffer users
  -- memberships name what is there, and each stands once
  pub members_name : AllByRecursion (NamesBoth next groups) members
  pub members_rise : KeysRise member_key members

-- the numbers rise, from above this one on
abbrev pub NumbersRise : ℕ → List ℕ → Type 0
NumbersRise before [] = Unit {0}
NumbersRise before (number ∷ numbers) = (before < number) × NumbersRise number numbers

-- A list names 1 to 16 things that are there, where this is the next id.
pub record NamesSome (next : ℕ) (ids : List ℕ) : Type 0 where
  pub not_empty : 1 ≤ length ids
  pub fits : length ids ≤ MAX_NAMED
  pub there : AllByRecursion (IsGiven next) ids

-- Tasks and workflows, by the next ids of groups, tasks and workflows.
pub record AreTasks (tasks workflows : List (List ℕ)) (groups next next_chain : ℕ) : Type 0 where
  -- both are numbered without a hole
  pub next_task : IsNext LAST_TASK_ID next
  pub next_workflow : IsNext LAST_WORKFLOW_ID next_chain
  pub tasks_numbered : next ≡ length tasks + 1
  pub workflows_numbered : next_chain ≡ length workflows + 1
  -- a task has 1 to 16 distinct groups, rising, and a workflow 1 to 16 tasks
  pub task_groups : AllByRecursion (NamesSome groups) tasks
  pub task_groups_rise : AllByRecursion (NumbersRise 0) tasks
  pub workflow_tasks : AllByRecursion (NamesSome next) workflows

-- Grants, beside these pages and groups: they name what is there, each stands once, and there are
-- no more than may be.
pub record AreGrants (grants : List Grant) (pages : Forest Body) (groups : ℕ) : Type 0 where
  pub grants_name : AllByRecursion (λ (grant : Grant). IsGiven groups grant.group) grants
  pub grants_have_pages :
      AllByRecursion (λ (grant : Grant). has_page grant.page pages ≡ true) grants
  pub grants_rise : KeysRise grant_key grants
  pub grants_fit : length grants ≤ MAX_GRANTS

-- The open desks: one a page, of a user who may work there, on a regular page other than the root.
pub record AreDesks (part : TreePart) : Type 0 where
  pub desks_rise : KeysRise desk_key part.desk_pairs
  pub desks_fit : length part.desk_pairs ≤ MAX_DESKS
  pub desk_users : AllByRecursion (λ (pair : DeskPair). pair.user < part.next_user) part.desk_pairs
  pub desks_stay : AllByRecursion (λ (pair : DeskPair). stays part pair ≡ true) part.desk_pairs
  pub desks_regular :
      AllByRecursion (λ (pair : DeskPair). IsRegular part.tree pair.page) part.desk_pairs

-- The tree part of a sound world.
pub record IsSoundPart (part : TreePart) : Type 0 where
  pub time : IsMoment part.time
  pub pages : IsTree part.tree part.next_page
  pub revisions : AreRevisions part.tree part.revisions part.next_revision part.next_user
  pub bodies :
      AreBodies part.tree part.revisions part.next_user part.next_workflow part.workflows
  pub people : ArePeople part.users part.members part.next_user part.next_group
  pub tasks : AreTasks part.tasks part.workflows part.next_group part.next_task part.next_workflow
  pub grants : AreGrants part.grants part.tree part.next_group
  pub desks : AreDesks part

-- A sound world: the open desks are those of its tree part, and their texts are within their
-- limits.
pub record IsSound (world : World) : Type 0 where
  pub part : IsSoundPart world.part
  pub desks_match : map pair_of world.desks ≡ world.part.desk_pairs
  pub texts : AllByRecursion (λ (desk : Desk). FitsLimits desk.text) world.desks
