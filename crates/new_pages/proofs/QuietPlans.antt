-- Plans of commands that look at no desk and end none.
use Rattle.std.proofs.Common.{◌≡◌, ◌≤◌, ℕ, false, [], length, Option, None, Ok, refl, arith}
use Rattle.site_ids.specs.Moment.{IsMoment}
use Rattle.site_types.specs.Content.{ContentValue}
use Rattle.site_types.specs.declared.command.Command.{Command}
use Rattle.site_types.specs.declared.reply.Reply.{Reply}
use Rattle.site_model.specs.World as worlds
use Rattle.site_model.specs.Create.{plain_deed}
use Rattle.site_model.specs.Desks.{desk_page}
use Rattle.site_model.specs.Losing.{NoDesk, suspects_of, shuts}
use Rattle.site_model.specs.Reached.{IsReachedPart}
use Rattle.site_model.specs.Step.{rules, step_by}
use Rattle.site_model.specs.Step as steps
use Rattle.site_model.proofs.ReachedSound.{step_by_keeps_reached}
use Rattle.flat_model.specs.Fits.{Fits}
use Rattle.flat_model.specs.Flat.{lists_of}
use Rattle.flat_model.specs.declared.change.Change.{Change}
use Rattle.site_part.specs.Plans.{HasPlan, quiet_plan, left_by, rows_needed, people_needed, flows_needed}
use Rattle.site_part.specs.Standing.{IsSame}
use Rattle.site_part.specs.declared.part.TreePart.{TreePart}
use Rattle.site_part.proofs.StandingLemmas.{same_ready}
use Rattle.new_pages.specs.Plans.{IsAsked}
use Rattle.new_pages.proofs.EndingSteps.{ending, left_open, no_desk_fits, quiet_step}

-- A command that none of its own rules refuses, with what it does: it looks at no desk and ends none.
pub record IsQuiet (part : worlds.TreePart) (desk : Option ContentValue) (now caller : ℕ)
    (command : Command) (after : worlds.TreePart) (reply : Reply) : Type 0 where
  pub clear : rules part desk now caller command ≡ None
  pub own : desk_page command ≡ None
  pub done : steps.effect part desk now caller command ≡ plain_deed after reply
  pub desks : after.desk_pairs ≡ part.desk_pairs
  pub suspects : suspects_of command ≡ NoDesk
  pub shut : shuts command ≡ false

module _ (kept : TreePart) (part : worlds.TreePart) (desk : Option ContentValue)
    (now caller : ℕ) (command : Command) (after : worlds.TreePart) (reply : Reply)
    (asked : IsAsked kept part caller command)
    (quiet : IsQuiet part desk now caller command after reply) where
  -- the world after it with its open desks
  abbrev left : worlds.TreePart
  left = left_open after [] part.desk_pairs

  -- the step leads there, and ends no desk
  pub step_is : step_by part desk now caller command ≡ Ok (left, ending reply [])
  step_is =
      quiet_step part desk now caller command after reply asked.ready.reached.sound asked.front
      quiet.clear quiet.own quiet.done quiet.desks quiet.suspects quiet.shut

  -- to a world that is reached
  pub reached_after : IsMoment now → IsReachedPart left
  reached_after moment =
      step_by_keeps_reached part left (ending reply []) desk now caller command
      asked.ready.reached moment asked.fits (no_desk_fits part desk caller command quiet.own) step_is

  -- a plan with its reply, whose change fits and leads there
  pub quiet_planned : (room : TreePart) (told : Reply) (change : Change) → IsSame kept room →
      told ≡ reply → Fits (lists_of part) change →
      left_by (quiet_plan told change) (lists_of part) ≡ lists_of left →
      rows_needed change.tree ≤ room.rows.spare → length change.revisions ≤ room.shelf.spare →
      people_needed change.people ≤ room.grants.spare →
      flows_needed change.flows ≤ room.flows.spare →
      HasPlan room part desk now caller command (quiet_plan told change)
  quiet_planned room told change same told_is fits leads rows revisions people flows = record {
    after = left;
    effect = ending reply [];
    can = record {
      ready = same_ready kept room part same asked.ready;
      right = record {
        step = step_is;
        reply = told_is;
        opened = refl;
        shut = refl;
        no_text = refl;
        fits = record { change = fits; opened = tt };
        leads = leads;
      };
      room = record {
        rows = rows;
        revisions = revisions;
        people = people;
        flows = flows;
        desks = omega arith;
      };
    };
  }
