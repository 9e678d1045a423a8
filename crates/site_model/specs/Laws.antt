-- The laws of the world, each proved in src/laws.rt.
use Rattle.std.specs.Prelude.{◌≡◌, ℕ, ◌≤◌, ◌==◌, ◌||◌, ◌&&◌, true, false, not, filter, List, [], ◌∷◌, ◌++◌, length, Option, Some, None, Ok, Err, IfSome, max}
use Rattle.std.specs.List.{AllByRecursion, list_any}
use Rattle.std.specs.Option.{is_none}
use Rattle.page_tree.specs.Tree.{HasDistinctIds, has_page}
use Rattle.page_tree.specs.Rows.{Row, rows_of, raise_count}
use Rattle.site_ids.specs.declared.digest.TheConstants.{DIGEST_BYTES}
use Rattle.site_ids.specs.Moment.{IsMoment}
use Rattle.site_ids.specs.Slug.{IsSlug}
use Rattle.site_types.specs.Content.{ContentValue, FitsLimits}
use Rattle.site_types.specs.declared.command.Command.{Command}
use Rattle.site_types.specs.declared.command.Command.TheVariants as commands
use Rattle.site_types.specs.declared.entry.Entry.{Entry}
use Rattle.site_types.specs.declared.permission.Permission.{Permission}
use Rattle.site_types.specs.declared.refusal.Refusal.TheVariants.{Denied}
use Rattle.site_types.specs.declared.reply.Reply.{Reply}
use Rattle.site_model.specs.World.{World, TreePart, DeskPair, Effect}
use Rattle.site_model.specs.Limits.{MAX_NAMED}
use Rattle.site_model.specs.Rights.{is_superuser, has, is_granted}
use Rattle.site_model.specs.Rules.{first_of}
use Rattle.site_model.specs.Front.{front_rules}
use Rattle.site_model.specs.Needs.{may}
use Rattle.site_model.specs.Create.{plain_revision}
use Rattle.site_model.specs.Delete.{with_deleted, deleted_at_once}
use Rattle.site_model.specs.Desks.{desk_page, own_text, settled, stays}
use Rattle.site_model.specs.Step.{rules, effect, unless_refused, step_by, step}
use Rattle.site_model.specs.Parts.{part_of, touches}
use Rattle.site_model.specs.Start.{new_world}
use Rattle.site_model.specs.Moderating.{nearest_workflow, moderation_of, after_event, submission}
use Rattle.site_model.specs.Sound.{IsGiven, FitsModeration, IsSoundPart, IsSound, NumbersRise}
use Rattle.site_model.specs.Reached.{IsReachedPart, IsReached}

-- A list of ids in a command: 1 to 16 of them.
pub record FitsList (ids : List ℕ) : Type 0 where
  pub not_empty : 1 ≤ length ids
  pub fits : length ids ≤ MAX_NAMED

-- What a command has to be of itself, so that it keeps a world sound: its slug is a slug, its
-- content is within its limits, and so on; values of their types are nothing else.
abbrev pub FitsCommand : Command → Type 0
FitsCommand (commands.Create parent slug content) = IsSlug slug × FitsLimits content
FitsCommand (commands.Move page target position) = Unit {0}
FitsCommand (commands.Delete page) = Unit {0}
FitsCommand (commands.SetSlug page slug) = IsSlug slug
FitsCommand (commands.Alias source parent slug) = IsSlug slug
FitsCommand (commands.Detach page) = Unit {0}
FitsCommand (commands.Copy page parent slug deep) = IsSlug slug
FitsCommand (commands.OpenDesk page) = Unit {0}
FitsCommand (commands.SaveDesk page content) = FitsLimits content
FitsCommand (commands.ShutDesk page) = Unit {0}
FitsCommand (commands.File page go_live expire) = IfSome go_live IsMoment × IfSome expire IsMoment
FitsCommand (commands.Publish page) = Unit {0}
FitsCommand (commands.Unpublish page) = Unit {0}
FitsCommand (commands.Unschedule page) = Unit {0}
FitsCommand (commands.Lock page) = Unit {0}
FitsCommand (commands.Unlock page) = Unit {0}
FitsCommand (commands.Purge page) = Unit {0}
FitsCommand (commands.DefineTask groups) = FitsList groups × NumbersRise 0 groups
FitsCommand (commands.DefineWorkflow tasks) = FitsList tasks
FitsCommand (commands.Assign page workflow) = Unit {0}
FitsCommand (commands.Submit page) = Unit {0}
FitsCommand (commands.Approve page) = Unit {0}
FitsCommand (commands.Reject page) = Unit {0}
FitsCommand (commands.Cancel page) = Unit {0}
FitsCommand (commands.DefineUser superuser digest) = length digest ≡ DIGEST_BYTES
FitsCommand commands.DefineGroup = Unit {0}
FitsCommand (commands.Member user group on) = Unit {0}
FitsCommand (commands.Grant group page permission on) = Unit {0}
FitsCommand commands.Tick = Unit {0}

-- What the text at a command's desk has to be, so that it keeps a world sound: it is within its
-- limits, and the desk of the caller on the page is open.
pub record IsAtDesk (part : TreePart) (caller page : ℕ) (text : ContentValue) : Type 0 where
  pub fits : FitsLimits text
  pub opened :
      list_any (λ pair. (pair.page == page) && (pair.user == caller)) part.desk_pairs ≡ true

-- where the command looks at the caller's desk on a page, and a text is given, it is like that
abbrev pub FitsDesk : TreePart → ℕ → Option ℕ → Option ContentValue → Type 0
FitsDesk part caller page desk =
    IfSome page (λ at. IfSome desk (λ text. IsAtDesk part caller at text))

-- The world of a new site is one that is reached.
abbrev pub NewWorldIsReached : Type 0
NewWorldIsReached =
    (digest : List ℕ) → length digest ≡ DIGEST_BYTES → IsReached (new_world digest)

-- A step of the tree part that is accepted leads from a part that is reached to another that is,
-- whoever calls, where the text that it is given is that of the caller's own desk.
abbrev pub StepByKeepsReached : Type 0
StepByKeepsReached =
    (before after : TreePart) (told : Effect) (desk : Option ContentValue) (now caller : ℕ)
    (command : Command) →
    IsReachedPart before → IsMoment now → FitsCommand command →
    FitsDesk before caller (desk_page command) desk →
    step_by before desk now caller command ≡ Ok (after, told) → IsReachedPart after

-- In a sound world the text of the caller's own desk, as a command is given it, is as the law above
-- asks.
abbrev pub OwnTextFits : Type 0
OwnTextFits =
    (world : World) (caller : ℕ) (page : Option ℕ) →
    IsSound world → FitsDesk world.part caller page (own_text world.desks caller page)

-- A step that is accepted keeps a world sound, whoever calls and whatever desks are open.
abbrev pub StepKeepsSound : Type 0
StepKeepsSound =
    (before after : World) (reply : Reply) (entry : Entry) →
    IsSound before → IsMoment entry.moment → FitsCommand entry.command →
    step before entry ≡ Ok (after, reply) → IsSound after

-- A step that is accepted leads from a world that is reached to one that is reached, whoever calls.
abbrev pub StepKeepsReached : Type 0
StepKeepsReached =
    (before after : World) (reply : Reply) (entry : Entry) →
    IsReached before → IsMoment entry.moment → FitsCommand entry.command →
    step before entry ≡ Ok (after, reply) → IsReached after

-- A step is its rules and its effect, with the desks that end.
abbrev pub StepIsSettled : Type 0
StepIsSettled =
    (part : TreePart) (desk : Option ContentValue) (now caller : ℕ) (command : Command) →
    step_by part desk now caller command
    ≡ unless_refused
    (first_of (front_rules part caller command ∷ rules part desk now caller command ∷ []))
    (settled caller (desk_page command) (effect part desk now caller command))

-- After every command that is accepted, each desk that is open is of a user who may work there.
abbrev pub DesksStay : Type 0
DesksStay =
    (before after : TreePart) (told : Effect) (desk : Option ContentValue) (now caller : ℕ)
    (command : Command) →
    step_by before desk now caller command ≡ Ok (after, told) →
    AllByRecursion (λ (pair : DeskPair). stays after pair ≡ true) after.desk_pairs

-- A part that an accepted entry does not touch stays.
abbrev pub UntouchedStays : Type 0
UntouchedStays =
    (before after : World) (reply : Reply) (entry : Entry) (number : ℕ) →
    step before entry ≡ Ok (after, reply) → touches before entry number ≡ false →
    part_of after number ≡ part_of before number

-- The reply to an accepted entry, and the parts that it touches after it, depend on the touched
-- parts before it alone: in another sound world with the same ones it is accepted too, with the
-- same reply, touches the same parts, and makes the same of them.
abbrev pub TouchedAlone : Type 0
TouchedAlone =
    (before other after : World) (reply : Reply) (entry : Entry) →
    IsSound before → IsSound other →
    ((number : ℕ) → touches before entry number ≡ true →
    part_of other number ≡ part_of before number) →
    step before entry ≡ Ok (after, reply) →
    (made : World) × (step other entry ≡ Ok (made, reply))
    × ((number : ℕ) → touches other entry number ≡ touches before entry number)
    × ((number : ℕ) → touches before entry number ≡ true →
    part_of made number ≡ part_of after number)

-- A superuser meets every need, and is denied nothing.
abbrev pub SuperusersMayAll : Type 0
SuperusersMayAll =
    (part : TreePart) (desk : Option ContentValue) (now caller need : ℕ) (command : Command) →
    is_superuser part.users caller ≡ true →
    (may part caller command ≡ None)
    × (step_by part desk now caller command ≡ Err (Denied need) → ⊥)

-- A user holds a permission at a page exactly as a superuser, or where one of the user's groups has
-- been granted it at a page on the walk there.
abbrev pub HeldByWalks : Type 0
HeldByWalks =
    (part : TreePart) (user page : ℕ) (permission : Permission) →
    has part user permission page
    ≡ (is_superuser part.users user || is_granted part user permission page)

-- In a sound world the nearest workflow of a page is there.
abbrev pub NearestIsGiven : Type 0
NearestIsGiven =
    (part : TreePart) (page : ℕ) → IsSoundPart part →
    IfSome (nearest_workflow part page) (IsGiven part.next_workflow)

-- In a sound world the moderation of a page names a workflow, a task within it, a revision of the
-- page and a user.
abbrev pub ModerationNames : Type 0
ModerationNames =
    (part : TreePart) (page : ℕ) → IsSoundPart part →
    IfSome (moderation_of part page)
    (FitsModeration part.revisions part.next_user part.next_workflow part.workflows page)

-- Where the first six rules do not refuse to submit a page, a moderation begins or goes on.
abbrev pub SubmissionHasPlace : Type 0
SubmissionHasPlace =
    (part : TreePart) (caller page : ℕ) →
    front_rules part caller (commands.Submit page) ≡ None →
    is_none (after_event part (submission part caller page) page) ≡ false

-- What a deletion makes of a sound world is told at once by the world before: each alias that is
-- left becomes what it would by itself.
abbrev pub DeletionAtOnce : Type 0
DeletionAtOnce =
    (part : TreePart) (now caller page : ℕ) → IsSoundPart part →
    with_deleted part now caller page ≡ deleted_at_once part now caller page

-- the lists beside the tree, but for the revisions, and the numbers that no creation gives out
pub record KeepsLists (before after : TreePart) : Type 0 where
  pub users : after.users ≡ before.users
  pub tasks : after.tasks ≡ before.tasks
  pub workflows : after.workflows ≡ before.workflows
  pub members : after.members ≡ before.members
  pub grants : after.grants ≡ before.grants
  pub next_user : after.next_user ≡ before.next_user
  pub next_group : after.next_group ≡ before.next_group
  pub next_task : after.next_task ≡ before.next_task
  pub next_workflow : after.next_workflow ≡ before.next_workflow

-- the rows without that of the page with the id
abbrev pub other_rows : {Body : Type 0} → ℕ → List (Row Body) → List (Row Body)
other_rows id rows = filter (λ row. not (row.id == id)) rows

-- An accepted creation keeps the lists and puts one revision after the others. Where no two pages
-- have one id and the next id is free, each row that was there stands where it stood and is as it
-- was, but that its parent counts one child more.
abbrev pub CreationKeepsTheRest : Type 0
CreationKeepsTheRest =
    (before after : TreePart) (told : Effect) (desk : Option ContentValue)
    (now caller parent : ℕ) (slug : List ℕ) (content : ContentValue) →
    step_by before desk now caller (commands.Create parent slug content) ≡ Ok (after, told) →
    KeepsLists before after
    × (after.revisions
    ≡ before.revisions
    ++ plain_revision before.next_revision before.next_page caller (max before.time now) content
    ∷ [])
    × (HasDistinctIds before.tree → has_page before.next_page before.tree ≡ false →
    other_rows before.next_page (rows_of after.tree) ≡ raise_count (Some parent)
    (rows_of before.tree))
