-- What is known of a command before it is planned.
use Rattle.std.specs.Prelude.{◌≡◌, ℕ, Option, None}
use Rattle.site_types.specs.Content.{ContentValue}
use Rattle.site_types.specs.declared.command.Command.{Command}
use Rattle.site_model.specs.World as worlds
use Rattle.site_model.specs.Desks.{desk_page}
use Rattle.site_model.specs.Front.{front_rules}
use Rattle.site_model.specs.Laws.{FitsCommand, FitsDesk}
use Rattle.site_part.specs.declared.part.TreePart.{TreePart}
use Rattle.site_part.specs.Standing.{IsReady}

-- What a command is planned of: a part in memory that stands for a world, a command that fits, and
-- the text of the caller's own desk, if the command looks at it and the caller has one.
pub record IsGiven (kept : TreePart) (part : worlds.TreePart) (desk : Option ContentValue)
    (caller : ℕ) (command : Command) : Type 0 where
  pub ready : IsReady kept part
  pub fits : FitsCommand command
  pub at_desk : FitsDesk part caller (desk_page command) desk

-- The same, where none of the first six rules refuses the command.
pub record IsAsked (kept : TreePart) (part : worlds.TreePart) (desk : Option ContentValue)
    (caller : ℕ) (command : Command) : Type 0 where
  pub given : IsGiven kept part desk caller command
  pub front : front_rules part caller command ≡ None
