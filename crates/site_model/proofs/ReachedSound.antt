-- A step leads from a world that is reached to one that is reached, whoever calls.
use Rattle.std.proofs.Common.{◌≡◌, ℕ, Option, Ok, subst}
use Rattle.site_ids.specs.Moment.{IsMoment}
use Rattle.site_types.specs.Content.{ContentValue}
use Rattle.site_types.specs.declared.command.Command.{Command}
use Rattle.site_types.specs.declared.entry.Entry.{Entry}
use Rattle.site_types.specs.declared.reply.Reply.{Reply}
use Rattle.site_model.specs.World.{World, TreePart, Effect}
use Rattle.site_model.specs.Desks.{desk_page}
use Rattle.site_model.specs.Step.{step_by, step}
use Rattle.site_model.specs.Step as steps
use Rattle.site_model.specs.Sound.{IsSoundPart}
use Rattle.site_model.specs.Reached.{IsReachedPart, IsReached}
use Rattle.site_model.specs.Laws.{FitsCommand, FitsDesk}
use Rattle.site_model.proofs.AcceptLemmas.{accepted}
use Rattle.site_model.proofs.DeskSound.{settled_sound}
use Rattle.site_model.proofs.Groups.{groups_of}
use Rattle.site_model.proofs.StepSound.{command_sound}
use Rattle.site_model.proofs.WorldSound.{step_keeps_sound}

-- A step of the tree part leads to what is reached, where its text is that of the caller's desk.
pub step_by_keeps_reached : (before after : TreePart) (told : Effect)
    (desk : Option ContentValue) (now caller : ℕ) (command : Command) →
    IsReachedPart before → IsMoment now → FitsCommand command →
    FitsDesk before caller (desk_page command) desk →
    step_by before desk now caller command ≡ Ok (after, told) → IsReachedPart after
step_by_keeps_reached before after told desk now caller command reached moment fits at is =
    let one = accepted before after told desk now caller command is in
    let deed = steps.effect before desk now caller command in
    let kept = command_sound before desk now caller command (groups_of before reached.sound)
    reached.sound.desks moment fits at one.front one.own in
    record {
      sound = subst (λ (made : TreePart × Effect). IsSoundPart made.0) one.done
          (settled_sound before caller (desk_page command) deed reached.sound kept);
    }

-- A step leads to a world that is reached.
pub step_keeps_reached : (before after : World) (reply : Reply) (entry : Entry) →
    IsReached before → IsMoment entry.moment → FitsCommand entry.command →
    step before entry ≡ Ok (after, reply) → IsReached after
step_keeps_reached before after reply entry reached moment fits is =
    record { sound = step_keeps_sound before after reply entry reached.sound moment fits is }
