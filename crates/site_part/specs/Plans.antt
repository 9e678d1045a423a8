-- What a plan tells of a command, and what it needs to be carried out.
use Rattle.std.specs.Prelude.{◌≡◌, ℕ, false, ◌==◌, not, ◌≤◌, List, [], length, map, filter, Option, Some, None, Result, Ok, Err}
use Rattle.std.specs.List.{list_any}
use Rattle.std.specs.Option.{option_map}
use Rattle.site_types.specs.Content.{ContentValue}
use Rattle.site_types.specs.declared.command.Command.{Command}
use Rattle.site_types.specs.declared.reply.Reply.{Reply}
use Rattle.site_model.specs.World as worlds
use Rattle.site_model.specs.Desks.{desk_key}
use Rattle.site_model.specs.Step.{step_by}
use Rattle.site_model.specs.Users.{put_in}
use Rattle.flat_model.specs.Fits.{Fits}
use Rattle.flat_model.specs.Flat.{lists_of}
use Rattle.flat_model.specs.Lists.{PartLists}
use Rattle.flat_model.specs.Made.{made}
use Rattle.flat_model.specs.declared.change.Change.{Change}
use Rattle.flat_model.specs.declared.change.TreeChange.{TreeChange}
use Rattle.flat_model.specs.declared.change.TreeChange.TheVariants as trees
use Rattle.flat_model.specs.declared.change.PeopleChange.{PeopleChange}
use Rattle.flat_model.specs.declared.change.PeopleChange.TheVariants as people
use Rattle.flat_model.specs.declared.change.FlowChange.{FlowChange}
use Rattle.flat_model.specs.declared.change.FlowChange.TheVariants as flows
use Rattle.site_part.specs.declared.fault.Fault.{Fault}
use Rattle.site_part.specs.declared.fault.Fault.TheVariants.{Refused, Memory}
use Rattle.site_part.specs.declared.part.TreePart.{TreePart}
use Rattle.site_part.specs.declared.plan.Plan.{Plan}
use Rattle.site_part.specs.Standing.{IsReady}

-- a plan that opens and ends no desk, and gives no page other links
abbrev pub quiet_plan : Reply → Change → Plan
quiet_plan reply change =
    record { reply = reply; opened = None; shut = []; saved = None; change = change; links = [] }

-- how many rows' room a change of the rows takes at most
abbrev pub rows_needed : TreeChange → ℕ
rows_needed trees.Nothing = 0
rows_needed (trees.Insert new) = length new
rows_needed (trees.Move plan urls) = 2
rows_needed (trees.Delete page) = 0
rows_needed (trees.Rename page slug urls) = 3

-- how much room among users, memberships and grants a change of them takes at most
abbrev pub people_needed : PeopleChange → ℕ
people_needed people.Nothing = 0
people_needed (people.User superuser digest) = 1
people_needed people.Group = 0
people_needed (people.Member user group on) = 1
people_needed (people.Grant group page permission on) = 1

-- how much room for tasks and workflows a change of them takes
abbrev pub flows_needed : FlowChange → ℕ
flows_needed flows.Nothing = 0
flows_needed (flows.Task groups) = 1
flows_needed (flows.Workflow tasks) = 1

-- how much room for open desks a plan takes
abbrev pub desks_needed : Option (ℕ × ℕ × ContentValue) → ℕ
desks_needed None = 0
desks_needed (Some desk) = 1

-- There is room for what is to be changed, so that no memory is taken.
pub record HasRoom (kept : TreePart) (plan : Plan) : Type 0 where
  pub rows : rows_needed plan.change.tree ≤ kept.rows.spare
  pub revisions : length plan.change.revisions ≤ kept.shelf.spare
  pub people : people_needed plan.change.people ≤ kept.grants.spare
  pub flows : flows_needed plan.change.flows ≤ kept.flows.spare
  pub desks : desks_needed plan.opened ≤ kept.desk_pairs.spare

-- a desk as a plan has it: its page, its user and its text
abbrev pub desk_of : worlds.Desk → ℕ × ℕ × ContentValue
desk_of desk = (desk.page, desk.user, desk.text)

-- the open desks with the one that a plan opens
abbrev pub pairs_opened : Option (ℕ × ℕ × ContentValue) → List worlds.DeskPair → List worlds.DeskPair
pairs_opened None pairs = pairs
pairs_opened (Some desk) pairs = put_in desk_key (record { page = desk.0; user = desk.1 }) pairs

-- the open desks without those on these pages
abbrev pub pairs_left : List ℕ → List worlds.DeskPair → List worlds.DeskPair
pairs_left shut pairs = filter (λ pair. not (list_any (λ id. id == pair.page) shut)) pairs

-- The lists that a plan leaves: those of its change, and of the open desks the one that it opens comes
-- and those that it ends go.
abbrev pub left_by : Plan → PartLists → PartLists
left_by plan lists =
    record (made plan.change lists) {
      desk_pairs = pairs_left plan.shut (pairs_opened plan.opened lists.desk_pairs);
    }

-- a desk can be opened where none is open on its page
abbrev pub DeskFits : Option (ℕ × ℕ × ContentValue) → List worlds.DeskPair → Type 0
DeskFits None pairs = Unit {0}
DeskFits (Some desk) pairs = list_any (λ pair. pair.page == desk.0) pairs ≡ false

-- A plan that lists can take: its change, and the desk that it opens.
pub record PlanFits (lists : PartLists) (plan : Plan) : Type 0 where
  pub change : Fits lists plan.change
  pub opened : DeskFits plan.opened lists.desk_pairs

-- the pages of desks
abbrev pub pages_of : List worlds.DeskPair → List ℕ
pages_of pairs = map (λ pair. pair.page) pairs

-- The plan of a command by this caller at this moment, which no rule refuses, where the caller has this
-- text at the desk that the command looks at: what it answers, the desk that it opens, with its page,
-- user and text, and the desks that it ends are those of the step; it saves no text; and the lists of the
-- world can take it, and it leaves those of the world after the step.
pub record IsPlan (part : worlds.TreePart) (desk : Option ContentValue) (now caller : ℕ)
    (command : Command) (after : worlds.TreePart) (effect : worlds.Effect) (plan : Plan) :
    Type 0 where
  pub step : step_by part desk now caller command ≡ Ok (after, effect)
  pub reply : plan.reply ≡ effect.reply
  pub opened : plan.opened ≡ option_map desk_of effect.opened
  pub shut : plan.shut ≡ pages_of effect.ended
  pub no_text : plan.saved ≡ None
  pub fits : PlanFits (lists_of part) plan
  pub leads : left_by plan (lists_of part) ≡ lists_of after

-- A plan is right: what is in memory stands for the world that it was made of, it is the plan of
-- the command, and there is room.
pub record CanCommit (kept : TreePart) (part : worlds.TreePart) (desk : Option ContentValue)
    (now caller : ℕ) (command : Command) (after : worlds.TreePart) (effect : worlds.Effect)
    (plan : Plan) : Type 0 where
  pub ready : IsReady kept part
  pub right : IsPlan part desk now caller command after effect plan
  pub room : HasRoom kept plan

-- a plan can be committed
pub record HasPlan (kept : TreePart) (part : worlds.TreePart) (desk : Option ContentValue)
    (now caller : ℕ) (command : Command) (plan : Plan) : Type 0 where
  pub after : worlds.TreePart
  pub effect : worlds.Effect
  pub can : CanCommit kept part desk now caller command after effect plan

-- What is told of a command before it changes anything: a plan exactly where no rule refuses it, and
-- the plan is right; or the refusal of the first rule that does. Out of memory tells nothing.
abbrev pub Prepares : worlds.TreePart → Option ContentValue → ℕ → ℕ → Command → TreePart →
    Result Plan Fault → Type 0
Prepares part desk now caller command kept (Ok plan) =
    HasPlan kept part desk now caller command plan
Prepares part desk now caller command kept (Err (Refused refusal)) =
    step_by part desk now caller command ≡ Err refusal
Prepares part desk now caller command kept (Err Memory) = Unit {0}
