-- The laws of entries in a file, each proved in src/laws.rt.
use Rattle.std.specs.Prelude.{ℕ, ◌≡◌, ◌+◌, false, List, length, Option, None}
use Rattle.site_types.specs.declared.entry.Entry.{Entry}
use Rattle.disk_model.specs.Past.{Past, seen}
use Rattle.disk_model.specs.Images.{EachHolds}
use Rattle.journal.specs.Form.{journal_file, front}
use Rattle.entry_log.specs.declared.log.EntryLog.{EntryLog}
use Rattle.entry_log.specs.Entries.{forms, RecoversTo, RecoversWith, IsBadAt}
use Rattle.entry_log.specs.Log.{Keeps}

-- a file recovers to one list of entries
abbrev pub RecoversOnce : Type 0
RecoversOnce =
    (k number : ℕ) (entries others : List Entry) (bytes : List ℕ) → RecoversTo k number entries bytes
    → RecoversTo k number others bytes → entries ≡ others

-- a file that recovers is bad nowhere
abbrev pub RecoversSoundly : Type 0
RecoversSoundly =
    (k number : ℕ) (entries others : List Entry) (bytes : List ℕ) (offset : ℕ)
    → RecoversTo k number entries bytes → IsBadAt k number others bytes offset → ⊥

-- whatever a crash leaves of what a log keeps recovers to its entries, with the one in doubt or
-- without
abbrev pub KeptRecovers : Type 0
KeptRecovers =
    (log : EntryLog) (past : Past) (base : ℕ) (entries : List Entry) (doubt : Option Entry)
    → Keeps log past base entries doubt
    → EachHolds past (journal_file log.journal.k) (RecoversWith log.journal.k base entries doubt)

-- a log that was read to its end, of a file that is all on the disk, keeps its entries
abbrev pub RecoveredIsKept : Type 0
RecoveredIsKept =
    (log : EntryLog) (past : Past) (base : ℕ) (entries : List Entry) → log.journal.pending ≡ false
    → log.journal.gate ≡ length (front log.journal.k (forms entries))
    → log.number ≡ base + length entries
    → RecoversTo log.journal.k base entries (seen past (journal_file log.journal.k))
    → EachHolds past (journal_file log.journal.k)
    (λ held. held ≡ seen past (journal_file log.journal.k)) → Keeps log past base entries None
