-- What closing a gate in doubt and appending a record leave of a journal.
use Rattle.std.proofs.Common.{◌≡◌, inl, inr, ℕ, Bool, true, false, List, Option, Some, None, Result, Ok, Err, IsOk, OnOk, OnErr, refl, sym, subst}
use Rattle.std.proofs.lemmas.Bool.{false≢true}
use Rattle.disk_model.specs.Past.{Past}
use Rattle.disk_model.specs.Images.{LeavesOnly}
use Rattle.disk_model.specs.OneFile.{KeepsOthers, InFile}
use Rattle.disk_model.proofs.OneFileLemmas.{KeepsOthers-same, InFile-start, InFile-earlier, InFile-then}
use Rattle.disk_model.proofs.MomentLemmas.{LeavesOnly-wider}
use Rattle.disk_model.specs.declared.fault.DiskFailed.{DiskFailed}
use Rattle.journal.specs.Form.{journal_file, RecoversEither}
use Rattle.journal.specs.Journal.{JournalValue, Holds, HoldsInDoubt}
use Rattle.journal.proofs.JournalLemmas.{OnOk-any}
use Rattle.entry_log.specs.Appending.{HoldsPayloads, RecoversPayloads, RecoversOneOf, HoldsAfterFault}

-- what did not fail left nothing after a failure
OnErr-ok : {T E : Type 0} (result : Result T E) (P : Type 0) → IsOk result → OnErr result P
OnErr-ok (Ok _) P is_ok = tt
OnErr-ok (Err _) P is_ok = absurd (false≢true is_ok)

-- What closing a gate in doubt ensures on an honest disk.
pub record Closes {T : Type 0} (result : Result T DiskFailed) (old new : JournalValue)
    (before after : Past) : Type 0 where
  pub idle : old.pending ≡ false → IsOk result × (after ≡ before) × (new ≡ old)
  pub ok : (payloads : List (List ℕ)) (payload : List ℕ)
      → HoldsInDoubt old before payloads payload → OnOk result (Holds new after payloads)
  pub err : (payloads : List (List ℕ)) (payload : List ℕ)
      → HoldsInDoubt old before payloads payload
      → OnErr result (HoldsInDoubt new after payloads payload)
  pub any_moment : (payloads : List (List ℕ)) (payload : List ℕ)
      → HoldsInDoubt old before payloads payload
      → LeavesOnly before after (InFile before (journal_file old.k)
      (RecoversEither old.k payloads payload))

module _ {T : Type 0} (result : Result T DiskFailed) (old new : JournalValue)
    (before after : Past) (closes : Closes result old new before after)
    (payloads : List (List ℕ)) where
  -- once it is closed
  pub closed-ok : (doubt : Option (List ℕ)) → HoldsPayloads old before payloads doubt
      → OnOk result (Holds new after payloads)
  closed-ok None holds =
      let idle = closes.idle holds.sure in
      OnOk-any result _ (subst (λ p. Holds new p payloads) (sym idle.1)
      (subst (λ j. Holds j before payloads) (sym idle.2) holds))
  closed-ok (Some payload) holds = closes.ok payloads payload holds

  -- if it could not be closed
  pub closed-err : (doubt : Option (List ℕ)) → HoldsPayloads old before payloads doubt
      → OnErr result (HoldsPayloads new after payloads doubt)
  closed-err None holds = OnErr-ok result _ (closes.idle holds.sure).0
  closed-err (Some payload) holds = closes.err payloads payload holds

  -- at any moment
  pub closed-any : (doubt : Option (List ℕ)) → HoldsPayloads old before payloads doubt
      → LeavesOnly before after (InFile before (journal_file old.k)
      (RecoversPayloads old.k payloads doubt))
  closed-any None holds =
      subst (λ p. LeavesOnly before p (InFile before (journal_file old.k)
      (RecoversPayloads old.k payloads None))) (sym (closes.idle holds.sure).1)
      (InFile-start before (journal_file old.k) (RecoversPayloads old.k payloads None) holds.each)
  closed-any (Some payload) holds = closes.any_moment payloads payload holds

-- what closing a gate leaves at any moment, among more
pub closed_among : (before after : Past) (k : ℕ) (payloads : List (List ℕ))
    (doubt : Option (List ℕ)) (piece : List ℕ)
    → LeavesOnly before after (InFile before (journal_file k) (RecoversPayloads k payloads doubt))
    → LeavesOnly before after (InFile before (journal_file k) (RecoversOneOf k payloads doubt piece))
closed_among before after k payloads doubt piece only =
    LeavesOnly-wider before after _ _ (InFile-earlier before before (journal_file k) _ _
    (KeepsOthers-same before before (journal_file k) refl) (λ held is. inl is)) only

-- closing a gate, and then appending a record
pub appended_among : (before mid after : Past) (k : ℕ) (payloads : List (List ℕ))
    (doubt : Option (List ℕ)) (piece : List ℕ) → KeepsOthers before mid (journal_file k)
    → LeavesOnly before mid (InFile before (journal_file k) (RecoversPayloads k payloads doubt))
    → LeavesOnly mid after (InFile mid (journal_file k) (RecoversEither k payloads piece))
    → LeavesOnly before after (InFile before (journal_file k) (RecoversOneOf k payloads doubt piece))
appended_among before mid after k payloads doubt piece others first second =
    InFile-then before mid after (journal_file k) _ _ _ others (λ held is. inl is)
    (λ held is. inr is) first second

-- what is in doubt after an append that failed
pub left_by : {T : Type 0} (result : Result T DiskFailed) (journal : JournalValue) (past : Past)
    (payloads : List (List ℕ)) (doubt : Option (List ℕ)) (piece : List ℕ) (pending : Bool)
    → journal.pending ≡ pending
    → OnErr result (journal.pending ≡ false → Holds journal past payloads)
    → OnErr result (journal.pending ≡ true → HoldsInDoubt journal past payloads piece)
    → OnErr result (HoldsAfterFault journal past payloads doubt piece)
left_by (Ok _) journal past payloads doubt piece pending is closed in_doubt = tt
left_by (Err _) journal past payloads doubt piece false is closed in_doubt =
    (None, closed is, inl refl)
left_by (Err _) journal past payloads doubt piece true is closed in_doubt =
    (Some piece, in_doubt is, inr (inr refl))
