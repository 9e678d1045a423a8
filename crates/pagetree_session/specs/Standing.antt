-- How the store of a session stands for a history, and what a request leaves.
use Rattle.std.specs.Prelude.{◌≡◌, ℕ, ◌⊎◌, [], Option}
use Rattle.disk_model.specs.Past.{Past as DiskPast}
use Rattle.disk_model.specs.Faults.{Rose}
use Rattle.site_types.specs.declared.entry.Entry.{Entry}
use Rattle.site_core.specs.declared.state.Core.{Core}
use Rattle.entry_log.specs.declared.log.EntryLog.{EntryLog}
use Rattle.site_store.specs.declared.store.Store.{Store}
use Rattle.site_store.specs.Opening.{start}
use Rattle.site_store.specs.Recovery.{IsKept}
use Rattle.site_store.specs.Standing.{IsAt}
use Rattle.http_model.specs.Requests.{Request}
use Rattle.wire_model.specs.declared.answer.Answer.{Answer}
use Rattle.wire_model.specs.declared.answer.Answer.TheVariants as answers
use Rattle.wire_model.specs.Exchange.{Past, Outcome, grown_by}
use Rattle.wire_model.specs.Transcript.{Gets, IsAccepted}

-- What clauses see of a store: what is in memory, its log, and of its disk the lengths of the files,
-- the past and the count of faults.
pub record Seen : Type 0 where
  pub core : Core
  pub log : EntryLog
  pub sizes : ℕ → ℕ
  pub past : DiskPast
  pub count : ℕ

-- what is seen of a store, by what its disk tells
abbrev pub seen_store : {D : Type 0} → (D → ℕ → ℕ) → (D → DiskPast) → (D → ℕ) → Store D → Seen
seen_store size past count store =
    record {
      core = store.core;
      log = store.log;
      sizes = size store.disk;
      past = past store.disk;
      count = count store.disk;
    }

-- A store is at a history, whose entries are in journal 1.
pub record IsReady (store : Seen) (past : Past) : Type 0 where
  pub at : IsAt store.core store.log store.sizes past
  pub k : store.log.journal.k ≡ 1

-- a history is on a store's disk, with at most one entry in doubt
abbrev pub HasKept : Seen → Past → Type 0
HasKept store past = (doubt : Option Entry) × IsKept store.log store.past start past doubt

-- a store is at a history, so that requests may be asked of it
abbrev pub MayAnswer : Seen → Type 0
MayAnswer store = (past : Past) × IsReady store past

-- A store went from one history to another: it is ready there, and an honest disk that had the one
-- has the other, and is honest still.
pub record GoesOn (honest : Type 0) (before : Seen) (past : Past) (still : Type 0) (after : Seen)
    (next : Past) : Type 0 where
  pub ready : IsReady after next
  pub still_honest : honest → still
  pub kept : honest → HasKept before past → HasKept after next

-- A request at a moment was answered so: whatever history the store was at, that is an answer which
-- it may get there, and the store went on to the history that follows.
abbrev pub Answered : Type 0 → Seen → Request → ℕ → Answer → Type 0 → Seen → Type 0
Answered honest before request moment answer still after =
    (past : Past) → IsReady before past →
    (next : Past)
    × Gets past before.count (record { request = request; moment = moment; answer = answer }) next
    after.count
    × GoesOn honest before past still after next

-- a store is at what it was at, and no fault was counted
abbrev pub Keeps : Type 0 → Seen → Type 0 → Seen → Type 0
Keeps honest before still after =
    (after.count ≡ before.count)
    × ((past : Past) → IsReady before past → GoesOn honest before past still after past)

-- an answer is an outcome's, which adds nothing
abbrev pub Tells : Outcome → Answer → Type 0
Tells outcome answer = (answer ≡ outcome.answer) × (outcome.added ≡ [])

-- What a call gets that comes to this outcome after a history, on a disk that had counted so many
-- faults: the outcome's answer, after which the history has what that adds; or the disk failed at an
-- entry that would be accepted, and the history is as it was.
abbrev pub GetsBy : Past → Outcome → ℕ → Answer → Past → ℕ → Type 0
GetsBy past outcome before answer next after =
    ((answer ≡ outcome.answer) × (next ≡ grown_by past outcome.added) × (after ≡ before))
    ⊎ (IsAccepted outcome × (answer ≡ answers.Disk before after) × Rose before after
    × (next ≡ past))

-- what came of a call that comes to this outcome after a history
abbrev pub RunsTo : Type 0 → Seen → Past → Outcome → Answer → Type 0 → Seen → Type 0
RunsTo honest before past outcome answer still after =
    (next : Past) × GetsBy past outcome before.count answer next after.count
    × GoesOn honest before past still after next
