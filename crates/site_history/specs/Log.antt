-- The log of a history: how many entries were written since its start, how many bytes they take,
-- how long the journal is, and whether one more entry has room.
use Rattle.std.specs.Prelude.{ℕ, ◌+◌, ◌-◌, Bool, true, not, nat_lt, nat_le, ◌==◌, ◌&&◌, ◌||◌}

-- How much was written: entries, the bytes of their forms, and the length of the journal file.
pub record Log : Type 0 where
  pub entries : ℕ
  pub bytes : ℕ
  pub journal : ℕ

-- the greatest number of an entry
abbrev pub LAST_NUMBER : ℕ
LAST_NUMBER = 18446744073709551615

-- the most entries of a log
abbrev pub MAX_ENTRIES : ℕ
MAX_ENTRIES = 2097152

-- the most bytes that the forms of its entries have together
abbrev pub MAX_ENTRY_BYTES : ℕ
MAX_ENTRY_BYTES = 1073741824

-- the most bytes of a journal file
abbrev pub MAX_JOURNAL : ℕ
MAX_JOURNAL = 1099511627776

-- what a record takes in the journal beside its entry's form: the length and the next gate
abbrev pub RECORD_FRAME : ℕ
RECORD_FRAME = 5

-- whether a record of so many bytes has room
abbrev pub log_room : ℕ → ℕ → ℕ → ℕ → Bool
log_room entries bytes journal more =
    not
    (nat_le MAX_ENTRIES entries
    || (nat_lt MAX_ENTRY_BYTES (bytes + more - RECORD_FRAME)
    || nat_lt MAX_JOURNAL (journal + more)))

-- How a log is kept: what an entry makes of it, and whether an entry may follow so many others and
-- this log.
pub record Logging (Entry : Type 0) : Type 0 where
  pub logged : Log → Entry → Log
  pub has_room : ℕ → Log → Entry → Bool

-- nothing is written
abbrev pub no_log : {Entry : Type 0} → Logging Entry
no_log = record { logged = λ log entry. log; has_room = λ number log entry. true }

-- a journal, where an entry's form takes so many bytes
abbrev pub journal_log : {Entry : Type 0} → (Entry → ℕ) → Logging Entry
journal_log size_of =
    record {
      logged = λ log entry. record {
        entries = log.entries + 1;
        bytes = log.bytes + size_of entry;
        journal = log.journal + size_of entry + RECORD_FRAME;
      };
      has_room = λ number log entry.
          not (number == LAST_NUMBER)
          && log_room log.entries log.bytes log.journal (size_of entry + RECORD_FRAME);
    }
