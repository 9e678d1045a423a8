-- What a scan of a journal's entries has read.
use Rattle.std.specs.Prelude.{ℕ, ◌≡◌, ◌+◌, List, length}
use Rattle.site_types.specs.declared.entry.Entry.{Entry}
use Rattle.byte_forms.specs.Entries.{entry_form, IsEntry}
use Rattle.journal.specs.Scan.{HasRead, journal_of}
use Rattle.entry_log.specs.Entries.{forms, AreEntries}
use Rattle.entry_log.specs.declared.log.EntryLog.{EntryLog}
use Rattle.entry_log.specs.declared.scan.EntryScan.{EntryScan}
use Rattle.entry_log.specs.Log.{fresh_log}

-- Of a file with these bytes the scan has read these entries, which follow one with the number
-- `base`, and the next gate is there.
pub record HasReadEntries (scan : EntryScan) (bytes : List ℕ) (base : ℕ)
    (entries : List Entry) : Type 0 where
  pub records : HasRead scan.scan bytes (forms entries)
  pub are : AreEntries base entries
  pub number : scan.number ≡ base + length entries

-- a payload is the form of an entry with this number
pub record IsEntryIn (payload : List ℕ) (number : ℕ) (entry : Entry) : Type 0 where
  pub is : IsEntry entry
  pub form : payload ≡ entry_form entry
  pub number_is : entry.number ≡ number

-- the log of a scan that ended: nothing was written since
abbrev pub log_of : EntryScan → EntryLog
log_of scan = fresh_log (journal_of scan.scan) scan.number
