-- How a store is opened: from the world of a new site, by the entries of its journal.
use Rattle.std.specs.Prelude.{ℕ, ◌≡◌, ◌+◌, ◌⊎◌, Bool, true, false, List, [], ◌∷◌, ◌++◌, length, None, Result, Ok, Err}
use Rattle.std.specs.List.{AllByRecursion}
use Rattle.disk_model.specs.Past.{Past, seen}
use Rattle.disk_model.specs.Images.{MayHold, EachHolds}
use Rattle.site_types.specs.declared.entry.Entry.{Entry}
use Rattle.site_types.specs.declared.refusal.Refusal.{Refusal}
use Rattle.site_model.specs.World.{World}
use Rattle.site_model.specs.Start.{new_world}
use Rattle.site_model.specs.Step.{step}
use Rattle.site_core.specs.Standing as cores
use Rattle.site_core.specs.declared.state.Core.{Core}
use Rattle.journal.specs.Form.{front, Fits}
use Rattle.journal.specs.Scan.{HasHeader}
use Rattle.journal.specs.declared.form.TheConstants.{HEADER_SIZE}
use Rattle.journal.specs.declared.fault.ScanFault.{ScanFault}
use Rattle.journal.specs.declared.fault.ScanFault.TheVariants.{Bad, Failed, Memory}
use Rattle.entry_log.specs.declared.log.EntryLog.{EntryLog}
use Rattle.entry_log.specs.declared.scan.EntryScan.{EntryScan}
use Rattle.entry_log.specs.Entries as entries_of
use Rattle.entry_log.specs.Scan.{HasReadEntries}
use Rattle.site_store.specs.declared.opening.TheConstants.{ABC_DIGEST}
use Rattle.site_store.specs.History.{SiteHistory}
use Rattle.site_store.specs.Recovery.{Stage, Leads, Recovers, end_of, IsKept}
use Rattle.site_store.specs.Standing.{IsAt}

-- the start: the world of a new site, whose first user has the token `abc`, before any entry
unfoldable pub start : Stage
start = record { world = new_world ABC_DIGEST; number = 0 }

-- After entries that are accepted one after the other stands an open gate, at this offset, and no
-- entry with the next number after it.
pub record IsNoEntryAt (k : ℕ) (from : Stage) (bytes : List ℕ) (offset : ℕ) : Type 0 where
  pub entries : List Entry
  pub world : World
  pub leads : Leads from.world entries world
  pub bad : entries_of.IsBadAt k from.number entries bytes offset

-- After entries that are accepted one after the other stands one whose gate, at this offset, is
-- open, and which the step of its world refuses.
pub record IsRefusedAt (k : ℕ) (from : Stage) (bytes : List ℕ) (offset : ℕ) : Type 0 where
  pub entries : List Entry
  pub world : World
  pub leads : Leads from.world entries world
  pub entry : Entry
  pub refusal : Refusal
  pub refused : step world entry ≡ Err refusal
  pub are : entries_of.AreEntries from.number (entries ++ entry ∷ [])
  pub fit : AllByRecursion Fits (entries_of.forms (entries ++ entry ∷ []))
  pub offset_is : offset ≡ length (front k (entries_of.forms entries))
  pub gate : ℕ
  pub rest : List ℕ
  pub is : bytes ≡ front k (entries_of.forms (entries ++ entry ∷ [])) ++ gate ∷ rest

-- A journal's file is bad at an offset: at 0 it has no header of the form; or at the first open gate
-- after which no entry stands that has the form, the next number, and is accepted.
abbrev pub IsBadAt : ℕ → Stage → List ℕ → ℕ → Type 0
IsBadAt k from bytes offset =
    ((offset ≡ 0) × (HasHeader k bytes → ⊥))
    ⊎ (IsNoEntryAt k from bytes offset ⊎ IsRefusedAt k from bytes offset)

-- Some entries were read and done: what is in memory stands for a world that is reached, to which
-- they lead; and under the premise, that the disk is honest, they are those before the next gate.
pub record HasReplayed (honest : Type 0) (bytes : List ℕ) (from : Stage) (scan : EntryScan)
    (core : Core) : Type 0 where
  pub world : World
  pub entries : List Entry
  pub ready : cores.IsReady core world
  pub leads : Leads from.world entries world
  pub read : honest → HasReadEntries scan bytes from.number entries

-- All entries were read and done.
pub record HasRecovered (honest : Type 0) (bytes : List ℕ) (from : Stage) (scan : EntryScan)
    (core : Core) : Type 0 where
  pub world : World
  pub entries : List Entry
  pub ready : cores.IsReady core world
  pub leads : Leads from.world entries world
  pub ended : scan.scan.ended ≡ true
  pub are : honest → entries_of.RecoversTo scan.scan.k from.number entries bytes
  pub gate : honest → scan.scan.gate ≡ length (front scan.scan.k (entries_of.forms entries))
  pub number : honest → scan.number ≡ from.number + length entries

-- what a fault of a scan tells of its file, if the disk is honest
abbrev pub TellsFault : Type 0 → ℕ → List ℕ → Stage → ScanFault → Type 0
TellsFault honest k bytes from (Bad offset) = honest → IsBadAt k from bytes offset
TellsFault honest k bytes from Failed = Unit {0}
TellsFault honest k bytes from Memory = Unit {0}

-- what stands after the next entry was read and done, if there was one
abbrev pub Replays : Type 0 → ℕ → List ℕ → Stage → EntryScan → Core → Result Bool ScanFault → Type 0
Replays honest k bytes from scan core (Ok true) = HasReplayed honest bytes from scan core
Replays honest k bytes from scan core (Ok false) = HasRecovered honest bytes from scan core
Replays honest k bytes from scan core (Err fault) = TellsFault honest k bytes from fault

-- what stands after all were
abbrev pub ReplaysAll : Type 0 → ℕ → List ℕ → Stage → EntryScan → Core → Result (Unit {0}) ScanFault →
    Type 0
ReplaysAll honest k bytes from scan core (Ok done) = HasRecovered honest bytes from scan core
ReplaysAll honest k bytes from scan core (Err fault) = TellsFault honest k bytes from fault

-- a store begins at the start if its journal's file is empty, and else where that recovers to
abbrev pub BeginsAt : ℕ → Stage → List ℕ → Stage → Type 0
BeginsAt k from [] at = at ≡ from
BeginsAt k from (byte ∷ bytes) at = Recovers k from at (byte ∷ bytes)

-- Up to its first gate that is not open, that gate included, a journal's file has so many bytes: the
-- header, the records of the entries that it recovers to, and the gate.
pub record EndsAfter (k number : ℕ) (bytes : List ℕ) (size : ℕ) : Type 0 where
  pub entries : List Entry
  pub are : entries_of.RecoversTo k number entries bytes
  pub size_is : size ≡ length (front k (entries_of.forms entries)) + 1

-- a store's journal begins with so many bytes: those of a journal without entries if its file is
-- empty, and else the file's up to its first gate that is not open, that gate included
abbrev pub BeginsWith : ℕ → ℕ → List ℕ → ℕ → Type 0
BeginsWith k number [] size = size ≡ HEADER_SIZE
BeginsWith k number (byte ∷ bytes) size = EndsAfter k number (byte ∷ bytes) size

-- A store was opened on files of which that of journal 1 had these bytes: it is at a history with no
-- items yet, and with nothing written to its log, which on an honest disk begins where the file
-- says, with as many bytes as the journal has there, and is kept there.
pub record IsOpened (honest : Type 0) (bytes : List ℕ) (core : Core) (log : EntryLog)
    (sizes : ℕ → ℕ) (past : Past) : Type 0 where
  pub history : SiteHistory
  pub fresh : history.items ≡ []
  pub no_entries : history.start.log.entries ≡ 0
  pub no_bytes : history.start.log.bytes ≡ 0
  pub k : log.journal.k ≡ 1
  pub at : IsAt core log sizes history
  pub begins : honest → BeginsAt 1 start bytes (end_of history)
  pub journal : honest → BeginsWith 1 start.number bytes history.start.log.journal
  pub kept : honest → IsKept log past start history None

-- every file reads as it did, and a crash leaves nothing new of it
abbrev pub KeepsFiles : Past → Past → Type 0
KeepsFiles old new =
    (file : ℕ) → (seen new file ≡ seen old file) × EachHolds new file (MayHold old file)
