-- The laws of the forms of entries, each proved in src/laws.rt.
use Rattle.std.specs.Prelude.{◌≡◌, ℕ, List, ◌++◌, Some}
use Rattle.site_types.specs.declared.entry.Entry.{Entry}
use Rattle.byte_forms.specs.Fronts.{HasOneReading}
use Rattle.byte_forms.specs.Commands.{command_form, IsCommand}
use Rattle.byte_forms.specs.Entries.{entry_form, IsEntry}
use Rattle.entry_codec.specs.Entries.{entry_at}

-- one form is of one entry, and begins no form of another
abbrev pub EntriesHaveOneReading : Type 0
EntriesHaveOneReading = HasOneReading entry_form IsEntry

-- one form is of one command, and begins no form of another
abbrev pub CommandsHaveOneReading : Type 0
CommandsHaveOneReading = HasOneReading command_form IsCommand

-- what is written of an entry is read as it, and what stands after it is left
abbrev pub EntriesReadBack : Type 0
EntriesReadBack =
    (entry : Entry) (rest : List ℕ) → IsEntry entry →
    entry_at (entry_form entry ++ rest) ≡ Some (entry, rest)
