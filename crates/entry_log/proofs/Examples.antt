-- The journal of a worked session, and its room.
use Rattle.std.proofs.Common.{◌≡◌, ℕ, [], ◌∷◌, ◌++◌, List, true, false, refl, codes, length}
use Rattle.site_types.specs.Content.{ContentValue}
use Rattle.site_types.specs.declared.entry.Entry.{Entry}
use Rattle.site_types.specs.declared.command.Command.TheVariants.{Create, Tick}
use Rattle.byte_forms.specs.Fields.{u32_form, u64_form}
use Rattle.byte_forms.specs.Commands.{command_form}
use Rattle.byte_forms.specs.Entries.{entry_form}
use Rattle.journal.specs.Form.{front, opened}
use Rattle.entry_log.specs.declared.log.EntryLog.{EntryLog}
use Rattle.entry_log.specs.Entries.{forms, AreNumbered}
use Rattle.entry_log.specs.Log.{log_in, fresh_log, entry_logging}

-- the content of the title Home without blocks
abbrev home : ContentValue
home = record { title = codes "Home"; blocks = [] }

-- entry 1 of user 1 at second 1,700,000,000: the page `home` below the root
abbrev first_entry : Entry
first_entry = record {
  number = 1;
  moment = 1700000000;
  caller = 1;
  command = Create 1 (codes "home") home;
}

-- a journal that has it, with a closed gate after it
abbrev first_file : List ℕ
first_file = front 1 (forms (first_entry ∷ [])) ++ 0 ∷ []

-- it has 59 bytes
first_file_length : length first_file ≡ 59
unfolding front opened entry_form command_form u32_form u64_form
first_file_length = refl

-- the first record's length stands after the header and its open gate
first_record : first_file
    ≡ (87 ∷ 80 ∷ 84 ∷ 74 ∷ 82 ∷ 78 ∷ 76 ∷ 49 ∷ []) ++ (0 ∷ 0 ∷ 0 ∷ 0 ∷ 0 ∷ 0 ∷ 0 ∷ 1 ∷ [])
    ++ (1 ∷ []) ++ (0 ∷ 0 ∷ 0 ∷ 37 ∷ []) ++ entry_form first_entry ++ (0 ∷ [])
unfolding front opened entry_form command_form u32_form u64_form
first_record = refl

-- a tick after it, with the number that it must have
abbrev second_entry : Entry
second_entry = record { number = 2; moment = 1700000000; caller = 0; command = Tick }

-- the two are numbered
two_numbered : AreNumbered 0 (first_entry ∷ second_entry ∷ [])
two_numbered = (refl, (refl, tt))

-- a log that was opened with an empty journal
abbrev empty_log : EntryLog
empty_log = fresh_log (record { k = 1; gate = 16; pending = false }) 0

-- it has room for the entry
has_room : entry_logging.has_room empty_log.number (log_in empty_log) first_entry ≡ true
unfolding entry_form command_form u32_form u64_form
has_room = refl

-- at the greatest number no log has
last_number : entry_logging.has_room 18446744073709551615 (log_in empty_log) first_entry ≡ false
unfolding entry_form command_form u32_form u64_form
last_number = refl
