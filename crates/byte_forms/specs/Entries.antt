-- The forms of entries: number, moment, caller and command.
use Rattle.std.specs.Prelude.{ℕ, ◌≤◌, ◌<◌, ◌^◌, List, ◌++◌}
use Rattle.site_types.specs.Ids.{IsUserId}
use Rattle.site_types.specs.Moment.{IsMoment}
use Rattle.site_types.specs.declared.entry.Entry.{Entry}
use Rattle.byte_forms.specs.Fields.{id_form, moment_form, u64_form}
use Rattle.byte_forms.specs.Commands.{command_form, IsCommand}

-- an entry: its number in eight bytes, its moment, its caller and its command
unfoldable pub entry_form : Entry → List ℕ
entry_form entry =
    u64_form entry.number ++ moment_form entry.moment ++ id_form entry.caller
    ++ command_form entry.command

-- an entry has a form where its number is at least 1 and its fields are in their ranges
pub record IsEntry (entry : Entry) : Type 0 where
  pub not_zero : 1 ≤ entry.number
  pub fits : entry.number < 2 ^ 64
  pub moment : IsMoment entry.moment
  pub caller : IsUserId entry.caller
  pub command : IsCommand entry.command
