-- How the site in memory stands for a world, and what is told of a command before and after it.
use Rattle.std.specs.Prelude.{◌≡◌, ◌≤◌, ℕ, true, Option, Some, None, Result, Ok, Err}
use Rattle.std.specs.List.{AllByRecursion}
use Rattle.std.specs.Option.{option_map, is_some}
use Rattle.site_ids.specs.Ids.{IsPageId}
use Rattle.site_types.specs.Content.{ContentValue}
use Rattle.site_types.specs.declared.command.Command.{Command}
use Rattle.site_types.specs.declared.refusal.Refusal.TheVariants.{NoDesk}
use Rattle.site_types.specs.declared.reply.Reply.{Reply}
use Rattle.site_types.specs.declared.reply.Reply.TheVariants.{Done}
use Rattle.desks.specs.Laws.{own_text}
use Rattle.site_model.specs.World.{World}
use Rattle.site_model.specs.Reached.{IsReached}
use Rattle.site_model.specs.Step.{step_at}
use Rattle.flat_model.specs.Flat.{lists_of}
use Rattle.flat_model.specs.Single.{tree_change}
use Rattle.flat_model.specs.declared.change.TreeChange.TheVariants.{Nothing}
use Rattle.site_part.specs.declared.fault.Fault.{Fault}
use Rattle.site_part.specs.declared.fault.Fault.TheVariants.{Refused, Memory}
use Rattle.site_part.specs.declared.part.TreePart.{TreePart}
use Rattle.site_part.specs.declared.plan.Plan.{Plan}
use Rattle.site_part.specs.Plans.{PlanFits, HasRoom, left_by, quiet_plan}
use Rattle.site_part.specs.Standing as parts_stand
use Rattle.part_commits.specs.InStep.{CanStayInStep}
use Rattle.part_commits.specs.Links.{CanPutLinks}
use Rattle.site_core.specs.Texts.{DeskLists, kept_on, row_of, desk_on, room_for, AreDesks, OpensWell, desk_left}
use Rattle.site_core.specs.declared.state.Core.{Core}

-- What is in memory is what the world has: the tree part, and on each page the open desk with its user
-- and its text, kept in the part of the page's stripe.
pub record StandsFor (core : Core) (world : World) : Type 0 where
  pub tree : parts_stand.StandsFor core.tree world.part
  pub desks : AreDesks core.desks.lists world.desks

-- What is in memory stands for a world that commands reach.
pub record IsReady (core : Core) (world : World) : Type 0 where
  pub stands : StandsFor core world
  pub reached : IsReached world

-- all but the room is as it was
pub record IsSame (before after : Core) : Type 0 where
  pub tree : parts_stand.IsSame before.tree after.tree
  pub desks : after.desks.lists ≡ before.desks.lists

-- the text of a user's own desk on a page
abbrev pub kept_text : DeskLists → ℕ → Option ℕ → Option ContentValue
kept_text desks user None = None
kept_text desks user (Some page) = own_text user (kept_on page desks.lists)

-- there is room for the desk that a plan opens, if it opens one
abbrev pub HasDeskRoom : DeskLists → Option (ℕ × ℕ × ContentValue) → Type 0
HasDeskRoom desks None = Unit {0}
HasDeskRoom desks (Some desk) = 1 ≤ room_for desk.0 desks.spares

-- the plan of a text that is saved: it changes no more than that, and not the time either
abbrev pub saving_plan : TreePart → ℕ → ℕ → ContentValue → Plan
saving_plan tree page user text =
    record (quiet_plan Done (tree_change Nothing tree.time tree.next_page tree.next_revision)) {
      saved = Some (page, user, text);
    }

-- What is told of a text that is to be saved: its plan exactly if the user has the desk, or else that
-- there is none. Out of memory tells nothing.
abbrev pub PlansSaving : TreePart → DeskLists → ℕ → ℕ → ContentValue → Result Plan Fault → Type 0
PlansSaving tree desks page user text (Ok plan) =
    (is_some (kept_text desks user (Some page)) ≡ true) × (plan ≡ saving_plan tree page user text)
PlansSaving tree desks page user text (Err (Refused refusal)) =
    (kept_text desks user (Some page) ≡ None) × (refusal ≡ NoDesk)
PlansSaving tree desks page user text (Err Memory) = Unit {0}

-- A command has a plan, which can be committed: it answers and leaves what the step does.
pub record HasPlan (core : Core) (world : World) (now caller : ℕ) (command : Command) (plan : Plan) :
    Type 0 where
  pub after : World
  pub reply : Reply
  pub step : step_at world now caller command ≡ Ok (after, reply)
  pub ready : IsReady core world
  pub reply_is : plan.reply ≡ reply
  -- the tree part can take the plan, and it leaves that of the step
  pub fits : PlanFits (lists_of world.part) plan
  pub pages : AllByRecursion IsPageId plan.shut
  pub room : HasRoom core.tree plan
  pub in_step : CanStayInStep core.tree (lists_of world.part) plan.change
  pub links : CanPutLinks core.tree plan
  pub leads : left_by plan (lists_of world.part) ≡ lists_of after.part
  -- so can the open desks, page by page
  pub opens : OpensWell core.desks plan.opened
  pub desks_are :
      (page : ℕ) → desk_left plan.opened plan.saved plan.shut page (kept_on page core.desks.lists)
      ≡ option_map row_of (desk_on page after.desks)

-- What is told of a command before it changes anything: a plan exactly where the step accepts it, or
-- the step's refusal. Out of memory tells nothing.
abbrev pub Prepares : World → ℕ → ℕ → Command → Core → Result Plan Fault → Type 0
Prepares world now caller command core (Ok plan) = HasPlan core world now caller command plan
Prepares world now caller command core (Err (Refused refusal)) =
    step_at world now caller command ≡ Err refusal
Prepares world now caller command core (Err Memory) = Unit {0}
