-- How a session ends, by how its site was opened and how its connection ended.
use Rattle.std.proofs.Common.{◌≡◌, ◌+◌, ◌≤◌, inl, inr, ℕ, List, length, Option, Some, refl, sym, ap, subst, arith}
use Rattle.disk_model.specs.Past.{seen}
use Rattle.disk_model.specs.Faults.{Rose}
use Rattle.site_store.specs.Opening.{start, IsBadAt}
use Rattle.site_store.specs.declared.fault.OpenFault.{OpenFault}
use Rattle.site_store.specs.declared.fault.OpenFault.TheVariants as opens
use Rattle.wire_model.specs.Exchange.{Past}
use Rattle.wire_model.specs.Transcript.{Told}
use Rattle.request_loop.specs.declared.connection_end.ConnectionEnd.{ConnectionEnd}
use Rattle.request_loop.specs.declared.connection_end.ConnectionEnd.TheVariants as ends
use Rattle.request_loop.specs.Ending as loops
use Rattle.request_loop.proofs.MapLemmas.{Ends-map}
use Rattle.pagetree_session.specs.declared.session.TheConstants.{ANSWER_LIMIT}
use Rattle.pagetree_session.specs.declared.status.Status.{Status}
use Rattle.pagetree_session.specs.declared.status.Status.TheVariants.{Usage, ReadFault, WriteFault}
use Rattle.pagetree_session.specs.Beginning.{IsStart}
use Rattle.pagetree_session.specs.Ending.{DiskSeen, IsServed, IsUntouched, MovesOn, KeepsSite, Ends, EndsBy, status_of, status_of_open}

-- no connection ends as wrong words do
pub never_usage : (end : ConnectionEnd) → status_of end ≡ Usage → ⊥
never_usage ends.Closed is = cc
never_usage ends.Spent is = cc
never_usage (ends.Cut count) is = cc
never_usage (ends.Refused status) is = cc
never_usage ends.ReadFault is = cc
never_usage ends.WriteFault is = cc
never_usage ends.Memory is = cc

-- a failed read is a connection's
pub read_fault_end : (end : ConnectionEnd) → status_of end ≡ ReadFault → end ≡ ends.ReadFault
read_fault_end ends.ReadFault is = refl
read_fault_end ends.Closed is = cc
read_fault_end ends.Spent is = cc
read_fault_end (ends.Cut count) is = cc
read_fault_end (ends.Refused status) is = cc
read_fault_end ends.WriteFault is = cc
read_fault_end ends.Memory is = cc

-- so is a failed write
pub write_fault_end : (end : ConnectionEnd) → status_of end ≡ WriteFault → end ≡ ends.WriteFault
write_fault_end ends.WriteFault is = refl
write_fault_end ends.Closed is = cc
write_fault_end ends.Spent is = cc
write_fault_end (ends.Cut count) is = cc
write_fault_end (ends.Refused status) is = cc
write_fault_end ends.ReadFault is = cc
write_fault_end ends.Memory is = cc

-- where nothing was read or written, nothing was touched
pub untouched : (bytes : List ℕ) (coming : ℕ → Option ℕ) (left taken : Option (List ℕ)) →
    left ≡ Some bytes → IsUntouched bytes (MovesOn coming coming) left taken taken
untouched bytes coming left taken told = record {
  unread = told;
  unwritten = refl;
  unmoved = λ k. ap coming (let same : k ≡ k + 0 = omega arith in same);
}

module _ (honest : Type 0) (disk later : DiskSeen) (bytes : List ℕ) (coming : ℕ → Option ℕ) where
  -- the end of a session whose site is not opened
  pub unopened_ends : (left taken : Option (List ℕ)) (fault : OpenFault) → left ≡ Some bytes →
      (honest → (file offset : ℕ) → fault ≡ opens.BadStore file offset →
      (file ≡ 3) × (1 ≤ length (seen disk.past 3)) × IsBadAt 1 start (seen disk.past 3) offset) →
      KeepsSite honest disk later → (fault ≡ opens.Disk → Rose disk.count later.count) →
      Ends honest disk later bytes coming (MovesOn coming coming) left taken taken
      (status_of_open fault)
  unopened_ends left taken (opens.BadStore file offset) told bad keeps rose =
      (untouched bytes coming left taken told, keeps, λ is. bad is file offset refl)
  unopened_ends left taken opens.Disk told bad keeps rose =
      (untouched bytes coming left taken told, keeps, rose refl)
  unopened_ends left taken opens.Memory told bad keeps rose =
      inl (untouched bytes coming left taken told, keeps)

  module _ (HasMoved : ℕ → Type 0) (left before after : Option (List ℕ)) where
    -- the end by the status
    ends_by_status : (end : ConnectionEnd) →
        EndsBy honest disk later bytes coming HasMoved left before after end →
        Ends honest disk later bytes coming HasMoved left before after (status_of end)
    ends_by_status ends.Closed ended = ended
    ends_by_status ends.Spent ended = ended
    ends_by_status (ends.Cut count) ended = ended
    ends_by_status (ends.Refused status) ended = ended
    ends_by_status ends.ReadFault ended = ended
    ends_by_status ends.WriteFault ended = ended
    ends_by_status ends.Memory ended = inr ended

    module _ (sure : Type 0) (is_sure : honest → sure) (begin : Past)
        (starts : IsStart honest (seen disk.past 3) begin) where
      -- what is sure of the disk is so if the disk is honest
      surely : (told : List Told) (rest : List ℕ) (reads : ℕ) →
          IsServed sure later begin disk.count bytes coming HasMoved left told rest reads →
          IsServed honest later begin disk.count bytes coming HasMoved left told rest reads
      surely told rest reads is = record {
        transcript = is.transcript;
        count_is = is.count_is;
        on_disk = λ h. is.on_disk (is_sure h);
      }

      -- the end of a session whose site was opened
      pub opened_ends : (count : ℕ) → count ≡ disk.count → (status : Status) →
          ((end : ConnectionEnd) × (status ≡ status_of end)
          × loops.Ends (IsServed sure later begin count bytes coming HasMoved left) ANSWER_LIMIT left
          before after end) →
          Ends honest disk later bytes coming HasMoved left before after status
      opened_ends count same status (end, is, ended) =
          subst (Ends honest disk later bytes coming HasMoved left before after) (sym is)
          (ends_by_status end (
            begin,
            starts,
            Ends-map surely ANSWER_LIMIT left before after end
                (subst (λ (n : ℕ). loops.Ends (IsServed sure later begin n bytes coming HasMoved left)
                ANSWER_LIMIT left before after end) same ended),
          ))
