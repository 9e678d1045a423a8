-- What a log of entries in memory stands for, on an honest disk.
use Rattle.std.specs.Prelude.{ℕ, ◌≡◌, ◌⊎◌, ◌+◌, true, List, length, Option, Some, None, IfSome}
use Rattle.std.specs.Option.{option_map}
use Rattle.disk_model.specs.Past.{Past}
use Rattle.site_types.specs.declared.entry.Entry.{Entry}
use Rattle.byte_forms.specs.Entries.{entry_form, IsEntry}
use Rattle.site_history.specs.Log.{Log, Logging, journal_log}
use Rattle.journal.specs.Journal.{JournalValue}
use Rattle.entry_log.specs.declared.draft.Draft.{Draft}
use Rattle.entry_log.specs.declared.log.EntryLog.{EntryLog}
use Rattle.entry_log.specs.Appending.{HoldsPayloads}
use Rattle.entry_log.specs.Entries.{forms, AreEntries}

-- how much was written since a log was opened: entries, bytes of their forms, and the journal up to
-- its last gate, that gate included
abbrev pub log_in : EntryLog → Log
log_in log =
    record { entries = log.entries; bytes = log.bytes; journal = log.journal.gate + 1 }

-- a log of a journal, whose last entry has this number, and to which nothing was written yet
abbrev pub fresh_log : JournalValue → ℕ → EntryLog
fresh_log journal number =
    record { journal = journal; number = number; entries = 0; bytes = 0 }

-- how the log is kept: an entry takes the bytes of its form
abbrev pub entry_logging : Logging Entry
entry_logging = journal_log (λ entry. length (entry_form entry))

-- An entry that may be written next: it has a form and the next number, there is room for it, and
-- its record and the number of its bytes are those of its form.
pub record MayFollow (log : EntryLog) (draft : Draft) : Type 0 where
  pub is : IsEntry draft.entry
  pub number : draft.entry.number ≡ log.number + 1
  pub room : entry_logging.has_room log.number (log_in log) draft.entry ≡ true
  pub piece : draft.piece ≡ entry_form draft.entry
  pub size : draft.size ≡ length (entry_form draft.entry)

-- an entry in doubt has a form and this number
pub record IsNext (next : ℕ) (entry : Entry) : Type 0 where
  pub is : IsEntry entry
  pub number : entry.number ≡ next

-- the journal holds these entries, and one more is in doubt or none
abbrev pub HoldsForms : JournalValue → Past → List Entry → Option Entry → Type 0
HoldsForms journal past entries doubt =
    HoldsPayloads journal past (forms entries) (option_map entry_form doubt)

-- A log keeps these entries, which follow one with the number `base`: whatever a crash leaves now
-- recovers to them, or, where one more is in doubt, to them or to them with that one.
pub record Keeps (log : EntryLog) (past : Past) (base : ℕ) (entries : List Entry)
    (doubt : Option Entry) : Type 0 where
  pub holds : HoldsForms log.journal past entries doubt
  pub are : AreEntries base entries
  pub number : log.number ≡ base + length entries
  pub next : IfSome doubt (IsNext (base + length entries + 1))

-- What is in doubt after a call that failed: nothing, what was in doubt before it, or the entry that
-- was to be written.
abbrev pub MayBeLeft : Option Entry → Entry → Option Entry → Type 0
MayBeLeft doubt entry left = (left ≡ None) ⊎ ((left ≡ doubt) ⊎ (left ≡ Some entry))

-- the log keeps these entries, and of these one may be in doubt
abbrev pub KeepsAfterFault : EntryLog → Past → ℕ → List Entry → Option Entry → Entry → Type 0
KeepsAfterFault log past base entries doubt entry =
    (left : Option Entry) × Keeps log past base entries left × MayBeLeft doubt entry left
