-- What is seen of a page: what is kept of it, whether it is live, and what of it decides whom it
-- lets work on it.
use Rattle.std.specs.Prelude.{ℕ, zero, suc, Bool, true, false, not, ◌==◌, ◌&&◌, ◌||◌, List, [], ◌∷◌, map, Option, Some, None, if◌then◌else◌}
use Rattle.std.specs.List.{list_any}
use Rattle.std.specs.Option.{option_map}
use Rattle.page_tree.specs.Tree.{Forest, bare, grown, node_of, kids_of}
use Rattle.page_tree.specs.Walk.{Visit, walk, kid_count}
use Rattle.site_types.specs.declared.body.Body.{Body}
use Rattle.site_types.specs.declared.moderation.Moderation.{Moderation}
use Rattle.site_types.specs.declared.moderation.ModerationStatus.{ModerationStatus}
use Rattle.site_types.specs.declared.moderation.ModerationStatus.TheVariants.{InProgress, Approved, NeedsChanges, Cancelled}
use Rattle.site_types.specs.declared.permission.Permission.TheVariants.{Add, Change}
use Rattle.site_model.specs.World.{TreePart}
use Rattle.site_model.specs.Rights.{Rights, has_group, holds}

-- whether what is kept of one of these pages, or of one below them, passes the test
abbrev pub any_page : (Body → Bool) → Forest Body → Bool
any_page test bare = false
any_page test (grown i step slug body kids rest) =
    test body || (any_page test kids || any_page test rest)

-- what is kept of the first page
abbrev pub first_body : Forest Body → Option Body
first_body bare = None
first_body (grown i step slug body kids rest) = Some body

-- what is kept of a page
abbrev pub body_of : Forest Body → ℕ → Option Body
body_of tree page = first_body (node_of page tree)

-- whether the user owns the page and every page below it
abbrev pub owns_all : Forest Body → ℕ → ℕ → Bool
owns_all tree user page = not (any_page (λ body. not (body.owner == user)) (node_of page tree))

-- whether a regular page is live
abbrev pub is_public : Option Body → Bool
is_public None = false
is_public (Some body) = body.live

-- whether a page of which this is kept is live: an alias is live where its source is
abbrev pub is_live : Forest Body → Body → Bool
is_live tree body = shows body.source
  where
    shows : Option ℕ → Bool
    shows None = body.live
    shows (Some source) = is_public (body_of tree source)

-- whether the page itself is live
abbrev pub is_live_page : Forest Body → ℕ → Bool
is_live_page tree page = shows (body_of tree page)
  where
    shows : Option Body → Bool
    shows None = false
    shows (Some body) = is_live tree body

-- whether the page or one below it is live
abbrev pub any_live : Forest Body → ℕ → Bool
any_live tree page = any_page (is_live tree) (node_of page tree)

-- whether there are pages below the page
abbrev pub has_kids : Forest Body → ℕ → Bool
has_kids tree page = not (kid_count (kids_of page tree) == 0)

-- the list with this number, counted from 1, or the empty one
abbrev pub list_at : List (List ℕ) → ℕ → List ℕ
list_at [] number = []
list_at (list ∷ lists) zero = []
list_at (list ∷ lists) (suc zero) = list
list_at (list ∷ lists) (suc (suc number)) = list_at lists (suc number)

-- the number at this place, counted from 1, or 0
abbrev pub number_at : List ℕ → ℕ → ℕ
number_at [] place = 0
number_at (number ∷ numbers) zero = 0
number_at (number ∷ numbers) (suc zero) = number
number_at (number ∷ numbers) (suc (suc place)) = number_at numbers (suc place)

-- whether a moderation is in progress
abbrev pub is_in_progress : ModerationStatus → Bool
is_in_progress InProgress = true
is_in_progress Approved = false
is_in_progress NeedsChanges = false
is_in_progress Cancelled = false

-- the task at which a moderation stands
abbrev pub current_task : TreePart → Moderation → ℕ
current_task part moderation =
    number_at (list_at part.workflows moderation.workflow) moderation.task

-- The current task of a moderation in progress, and the groups whose members may answer it.
pub record Stage : Type 0 where
  pub task : ℕ
  pub groups : List ℕ

-- where a page's moderation stands, where it has one and that is in progress
abbrev pub stage_of : TreePart → Option Moderation → Option Stage
stage_of part None = None
stage_of part (Some moderation) =
    let task = current_task part moderation in
    if is_in_progress moderation.status
    then Some (record { task = task; groups = list_at part.tasks task })
    else None

-- What of a page decides who may work on it: the pages on the walk to it, who owns it, who has
-- locked it, and where its moderation stands.
pub record View : Type 0 where
  pub above : List ℕ
  pub owner : ℕ
  pub locked_by : Option ℕ
  pub stage : Option Stage

-- the last page of a walk
abbrev pub last_visit : List (Visit Body) → Option (Visit Body)
last_visit [] = None
last_visit (visit ∷ []) = Some visit
last_visit (visit ∷ next ∷ visits) = last_visit (next ∷ visits)

-- what is seen of the last page of a walk
abbrev pub viewed : TreePart → List (Visit Body) → Option View
viewed part visits =
    option_map
    (λ visit. record {
      above = map (λ one. one.id) visits;
      owner = visit.body.owner;
      locked_by = visit.body.locked_by;
      stage = stage_of part visit.body.moderation;
    })
    (last_visit visits)

-- what is seen of a page, where there is one
abbrev pub view_of : TreePart → ℕ → Option View
view_of part page = viewed part (walk page part.tree)

-- whether something is seen that passes the test
abbrev pub meets : (View → Bool) → Option View → Bool
meets test None = false
meets test (Some view) = test view

-- whether one is a member of a group of the task
abbrev pub is_asked : Rights → Stage → Bool
is_asked rights stage = list_any (λ own. has_group stage.groups own) rights.groups

-- whether the moderation is in progress and one is a member of a group of its current task
abbrev pub moderates : Rights → Option Stage → Bool
moderates rights None = false
moderates rights (Some stage) = is_asked rights stage

-- Whether one may edit the page: one holds change at it, or holds add at it and owns it, or
-- moderates it.
abbrev pub may_edit : Rights → View → Bool
may_edit rights view =
    holds rights Change view.above
    || ((holds rights Add view.above && (view.owner == rights.user))
    || moderates rights view.stage)
