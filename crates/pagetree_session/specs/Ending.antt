-- How a session ends, and what stands when it has ended: of its requests, of the bytes, and on the
-- disk.
use Rattle.std.specs.Prelude.{◌≡◌, ℕ, ◌+◌, ◌≤◌, ◌⊎◌, List, length, Option, Some}
use Rattle.disk_model.specs.Past.{Past as DiskPast, seen}
use Rattle.disk_model.specs.Images.{EachHolds}
use Rattle.disk_model.specs.Faults.{Rose}
use Rattle.outside_world.specs.Source.{with_front}
use Rattle.site_types.specs.declared.entry.Entry.{Entry}
use Rattle.site_store.specs.Opening.{start, IsBadAt, KeepsFiles}
use Rattle.site_store.specs.Recovery.{RecoversWith}
use Rattle.site_store.specs.declared.fault.OpenFault.{OpenFault}
use Rattle.site_store.specs.declared.fault.OpenFault.TheVariants as opens
use Rattle.wire_model.specs.Exchange.{Past}
use Rattle.wire_model.specs.Transcript.{Told, Follows, HasMoments, ArePlain}
use Rattle.request_loop.specs.declared.connection_end.ConnectionEnd.{ConnectionEnd}
use Rattle.request_loop.specs.declared.connection_end.ConnectionEnd.TheVariants as ends
use Rattle.request_loop.specs.Serving.{AreMoments, ReadsInTurn}
use Rattle.request_loop.specs.Ending as loops
use Rattle.pagetree_session.specs.declared.session.TheConstants.{ANSWER_LIMIT}
use Rattle.pagetree_session.specs.declared.status.Status.{Status}
use Rattle.pagetree_session.specs.declared.status.Status.TheVariants.{Done, Usage, ReadFault, WriteFault, DiskFault, Memory, BadStore, Cut, Refused, Spent}
use Rattle.pagetree_session.specs.Beginning.{IsStart}

-- a clock has moved on by so many moments
abbrev pub MovesOn : (ℕ → Option ℕ) → (ℕ → Option ℕ) → ℕ → Type 0
MovesOn coming later count = (k : ℕ) → later k ≡ coming (k + count)

-- What clauses see of a disk: its past, and its count of faults.
pub record DiskSeen : Type 0 where
  pub past : DiskPast
  pub count : ℕ

-- A transcript from a history on, and from a count of the disk's faults on: these requests are the
-- first in the bytes, with the moments that come and answers that they may get, and `rest` is left
-- of the bytes. The clock was read `reads` times, which is said by `HasMoved`. The source has `left`,
-- and each read waited for a request.
pub record IsTranscript
    (begin : Past) (count : ℕ) (bytes : List ℕ) (coming : ℕ → Option ℕ) (HasMoved : ℕ → Type 0)
    (left : Option (List ℕ)) (told : List Told) (rest : List ℕ) (reads : ℕ) : Type 0 where
  pub past : Past
  pub last_count : ℕ
  pub follows : Follows begin count bytes told past last_count rest
  pub moments : HasMoments coming 0 told
  pub in_range : AreMoments told
  pub moved : HasMoved reads
  pub read : List ℕ
  pub read_left : with_front read left ≡ Some bytes
  pub turns : ReadsInTurn ANSWER_LIMIT read told

-- What an honest disk has of a history: whatever a crash leaves of file 3 recovers to its end, or to
-- that with the one entry in doubt.
abbrev pub IsLeft : Type 0 → DiskPast → Past → Type 0
IsLeft honest disk past =
    honest → (doubt : Option Entry) × EachHolds disk 3 (RecoversWith 1 start past doubt)

-- A transcript, whose last history is on the disk; the disk's count of faults is the one that it ends
-- with.
pub record IsServed
    (honest : Type 0) (disk : DiskSeen) (begin : Past) (count : ℕ) (bytes : List ℕ)
    (coming : ℕ → Option ℕ) (HasMoved : ℕ → Type 0) (left : Option (List ℕ)) (told : List Told)
    (rest : List ℕ) (reads : ℕ) : Type 0 where
  pub transcript : IsTranscript begin count bytes coming HasMoved left told rest reads
  pub count_is : disk.count ≡ transcript.last_count
  pub on_disk : IsLeft honest disk.past transcript.past

-- a transcript whose answers are all decided by the history
abbrev pub IsPlainTranscript : Past → ℕ → List ℕ → (ℕ → Option ℕ) → (ℕ → Type 0) →
    Option (List ℕ) → List Told → List ℕ → ℕ → Type 0
IsPlainTranscript begin count bytes coming HasMoved left told rest reads =
    IsTranscript begin count bytes coming HasMoved left told rest reads × ArePlain told

-- Nothing was read and nothing written, and the clock was not read.
pub record IsUntouched
    (bytes : List ℕ) (HasMoved : ℕ → Type 0) (left before after : Option (List ℕ)) : Type 0 where
  pub unread : left ≡ Some bytes
  pub unwritten : after ≡ before
  pub unmoved : HasMoved 0

-- where an honest disk has a site, every file reads as it did, and a crash leaves nothing new
abbrev pub KeepsSite : Type 0 → DiskSeen → DiskSeen → Type 0
KeepsSite honest disk later =
    honest → 1 ≤ length (seen disk.past 3) → KeepsFiles disk.past later.past

-- the status of a session, by how its connection ended
abbrev pub status_of : ConnectionEnd → Status
status_of ends.Closed = Done
status_of ends.Spent = Spent
status_of (ends.Cut count) = Cut count
status_of (ends.Refused status) = Refused status
status_of ends.ReadFault = ReadFault
status_of ends.WriteFault = WriteFault
status_of ends.Memory = Memory

-- the status of a session whose site is not opened
abbrev pub status_of_open : OpenFault → Status
status_of_open (opens.BadStore file offset) = BadStore file offset
status_of_open opens.Disk = DiskFault
status_of_open opens.Memory = Memory

-- What stands at the end of a session whose connection ended so: it began at what the disk had.
abbrev pub EndsBy : Type 0 → DiskSeen → DiskSeen → List ℕ → (ℕ → Option ℕ) →
    (ℕ → Type 0) → Option (List ℕ) → Option (List ℕ) → Option (List ℕ) → ConnectionEnd →
    Type 0
EndsBy honest disk later bytes coming HasMoved left before after end =
    (begin : Past) × IsStart honest (seen disk.past 3) begin
    × loops.Ends (IsServed honest later begin disk.count bytes coming HasMoved left) ANSWER_LIMIT
    left before after end

-- What stands at the end of a session on these bytes, by how it ended. The disk was `disk` and is
-- `later`; the source has `left`; the bytes that the sink had taken are those `before`, and then those
-- `after`.
abbrev pub Ends : Type 0 → DiskSeen → DiskSeen → List ℕ → (ℕ → Option ℕ) →
    (ℕ → Type 0) → Option (List ℕ) → Option (List ℕ) → Option (List ℕ) → Status → Type 0
Ends honest disk later bytes coming HasMoved left before after Usage = ⊥
Ends honest disk later bytes coming HasMoved left before after (BadStore file offset) =
    IsUntouched bytes HasMoved left before after × KeepsSite honest disk later
    × (honest → (file ≡ 3) × (1 ≤ length (seen disk.past 3))
    × IsBadAt 1 start (seen disk.past 3) offset)
Ends honest disk later bytes coming HasMoved left before after DiskFault =
    IsUntouched bytes HasMoved left before after × KeepsSite honest disk later
    × Rose disk.count later.count
Ends honest disk later bytes coming HasMoved left before after Memory =
    (IsUntouched bytes HasMoved left before after × KeepsSite honest disk later)
    ⊎ EndsBy honest disk later bytes coming HasMoved left before after ends.Memory
Ends honest disk later bytes coming HasMoved left before after Done =
    EndsBy honest disk later bytes coming HasMoved left before after ends.Closed
Ends honest disk later bytes coming HasMoved left before after Spent =
    EndsBy honest disk later bytes coming HasMoved left before after ends.Spent
Ends honest disk later bytes coming HasMoved left before after (Cut count) =
    EndsBy honest disk later bytes coming HasMoved left before after (ends.Cut count)
Ends honest disk later bytes coming HasMoved left before after (Refused status) =
    EndsBy honest disk later bytes coming HasMoved left before after (ends.Refused status)
Ends honest disk later bytes coming HasMoved left before after ReadFault =
    EndsBy honest disk later bytes coming HasMoved left before after ends.ReadFault
Ends honest disk later bytes coming HasMoved left before after WriteFault =
    EndsBy honest disk later bytes coming HasMoved left before after ends.WriteFault
