-- What a journal in memory stands for, on an honest disk.
use Rattle.std.specs.Prelude.{ℕ, ◌≡◌, Bool, true, false, List, length}
use Rattle.disk_model.specs.Past.{Past}
use Rattle.disk_model.specs.Images.{EachHolds}
use Rattle.journal.specs.Form.{journal_file, front, Recovers, LeavesInDoubt}

-- a journal in memory: its number, the offset of its last gate, and whether that gate is in doubt
pub record JournalValue : Type 0 where
  pub k : ℕ
  pub gate : ℕ
  pub pending : Bool

-- A journal holds these payloads: nothing is in doubt, and whatever a crash leaves recovers to
-- them.
pub record Holds (journal : JournalValue) (past : Past) (payloads : List (List ℕ)) : Type 0 where
  pub sure : journal.pending ≡ false
  pub gate : journal.gate ≡ length (front journal.k payloads)
  pub each : EachHolds past (journal_file journal.k) (Recovers journal.k payloads)

-- A journal holds these payloads, and one more is in doubt: a crash leaves it or not.
pub record HoldsInDoubt (journal : JournalValue) (past : Past) (payloads : List (List ℕ))
    (payload : List ℕ) : Type 0 where
  pub doubt : journal.pending ≡ true
  pub gate : journal.gate ≡ length (front journal.k payloads)
  pub each : EachHolds past (journal_file journal.k) (LeavesInDoubt journal.k payloads payload)
