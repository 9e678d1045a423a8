-- What the kinds of needs say of the model.
use Rattle.std.specs.Prelude.{◌≡◌, ℕ}
use Rattle.site_types.specs.declared.command.Command.{Command}
use Rattle.site_model.specs.World.{TreePart}
use Rattle.site_model.specs.Needs.{needs_of}
use Rattle.command_rows.specs.Needs.{need_row_of, seen_needs}

-- the needs of every command are those of its kind
abbrev pub NeedsAreSeen : Type 0
NeedsAreSeen = (part : TreePart) → (user : ℕ) → (command : Command) →
    seen_needs part user (need_row_of command) ≡ needs_of part user command
