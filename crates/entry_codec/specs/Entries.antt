-- Reading entries.
use Rattle.std.specs.Prelude.{ℕ, nat_le, List, Option}
use Rattle.site_types.specs.declared.command.Command.{Command}
use Rattle.site_types.specs.declared.entry.Entry.{Entry}
use Rattle.content_codec.specs.Reading.{kept, made, both_at, number_at}
use Rattle.content_codec.specs.Fields.{moment_at, user_at}
use Rattle.entry_codec.specs.Commands.{command_at}

-- the number of an entry, at least 1
unfoldable pub entry_number_at : List ℕ → Option (ℕ × List ℕ)
entry_number_at bytes = kept (λ n. nat_le 1 n) (number_at 8 bytes)

-- the entry of these fields
abbrev pub entry_of : ℕ → ℕ → ℕ → Command → Entry
entry_of number moment caller command =
    record { number = number; moment = moment; caller = caller; command = command }

-- an entry
unfoldable pub entry_at : List ℕ → Option (Entry × List ℕ)
entry_at bytes =
    made (λ x. entry_of x.0.0.0 x.0.0.1 x.0.1 x.1)
    (both_at (both_at (both_at entry_number_at moment_at) user_at) command_at bytes)
