-- What appending the form of an entry leaves of a log.
use Rattle.std.proofs.Common.{◌≡◌, inl, inr, ℕ, ◌+◌, List, [], ◌∷◌, ◌++◌, length, Option, Some, None, IfSome, refl, sym, ◌∙◌, ap, subst, arith}
use Rattle.std.specs.Option.{option_map}
use Rattle.disk_model.specs.Past.{Past}
use Rattle.disk_model.specs.Images.{LeavesOnly}
use Rattle.disk_model.specs.OneFile.{InFile}
use Rattle.disk_model.proofs.MomentLemmas.{LeavesOnly-wider}
use Rattle.disk_model.proofs.OneFileLemmas.{KeepsOthers-same, InFile-earlier}
use Rattle.site_types.specs.declared.entry.Entry.{Entry}
use Rattle.byte_forms.specs.Entries.{entry_form}
use Rattle.site_history.specs.Log.{Log}
use Rattle.journal.specs.Form.{journal_file}
use Rattle.journal.specs.Journal.{Holds}
use Rattle.entry_log.specs.declared.draft.Draft.{Draft}
use Rattle.entry_log.specs.declared.log.EntryLog.{EntryLog}
use Rattle.entry_log.specs.Appending.{HoldsPayloads, RecoversPayloads, RecoversOneOf, HoldsAfterFault}
use Rattle.entry_log.specs.Entries.{forms, AreEntries, RecoversTo, RecoversWith, RecoversAmong}
use Rattle.entry_log.specs.Log.{IsNext, Keeps, MayFollow, KeepsAfterFault, entry_logging, log_in}
use Rattle.entry_log.proofs.EntryLemmas.{AreEntries-push, forms-push, length-push, RecoversWith-either}

-- an entry that may follow has the next number after those that are kept
pub follows_next : (log : EntryLog) (past : Past) (base : ℕ) (entries : List Entry)
    (doubt : Option Entry) (draft : Draft) → Keeps log past base entries doubt → MayFollow log draft
    → IsNext (base + length entries + 1) draft.entry
follows_next log past base entries doubt draft keeps may =
    record { is = may.is; number = omega (arith, may.number, keeps.number) }

-- once it is appended
pub Keeps-appended : (old new : EntryLog) (before after : Past) (base : ℕ) (entries : List Entry)
    (doubt : Option Entry) (draft : Draft) → Keeps old before base entries doubt
    → MayFollow old draft → new.number ≡ old.number + 1
    → Holds new.journal after (forms entries ++ draft.piece ∷ [])
    → Keeps new after base (entries ++ draft.entry ∷ []) None
Keeps-appended old new before after base entries doubt draft keeps may number holds =
    let next = follows_next old before base entries doubt draft keeps may in
    record {
      holds = subst (λ l. Holds new.journal after l)
          (ap (λ p. forms entries ++ p ∷ []) may.piece ∙ sym (forms-push entries draft.entry))
          holds;
      are = AreEntries-push base entries draft.entry keeps.are next;
      number = omega (arith, number, keeps.number, length-push entries draft.entry);
      next = tt;
    }

-- which entry is left in doubt, by the payload that is
left_entry : (log : EntryLog) (past : Past) (base : ℕ) (entries : List Entry)
    (doubt : Option Entry) (entry : Entry) (piece : List ℕ) → AreEntries base entries
    → log.number ≡ base + length entries → IfSome doubt (IsNext (base + length entries + 1))
    → IsNext (base + length entries + 1) entry → piece ≡ entry_form entry
    → HoldsAfterFault log.journal past (forms entries) (option_map entry_form doubt) piece
    → KeepsAfterFault log past base entries doubt entry
left_entry log past base entries doubt entry piece are number next new_next piece_is
    (left, holds, inl is) =
    let none : HoldsPayloads log.journal past (forms entries) None =
    subst (λ l. HoldsPayloads log.journal past (forms entries) l) is holds in
    (None, record { holds = none; are = are; number = number; next = tt }, inl refl)
left_entry log past base entries doubt entry piece are number next new_next piece_is
    (left, holds, inr (inl is)) = (
      doubt,
      record {
        holds = subst (λ l. HoldsPayloads log.journal past (forms entries) l) is holds;
        are = are;
        number = number;
        next = next;
      },
      inr (inl refl),
    )
left_entry log past base entries doubt entry piece are number next new_next piece_is
    (left, holds, inr (inr is)) = (
      Some entry,
      record {
        holds = subst (λ l. HoldsPayloads log.journal past (forms entries) l)
            (is ∙ ap Some piece_is) holds;
        are = are;
        number = number;
        next = new_next;
      },
      inr (inr refl),
    )

-- if it could not be appended
pub Keeps-after_fault : (old new : EntryLog) (before after : Past) (base : ℕ)
    (entries : List Entry) (doubt : Option Entry) (draft : Draft)
    → Keeps old before base entries doubt → MayFollow old draft → new.number ≡ old.number
    → HoldsAfterFault new.journal after (forms entries) (option_map entry_form doubt) draft.piece
    → KeepsAfterFault new after base entries doubt draft.entry
Keeps-after_fault old new before after base entries doubt draft keeps may number left =
    left_entry new after base entries doubt draft.entry draft.piece keeps.are
    (number ∙ keeps.number) keeps.next
    (follows_next old before base entries doubt draft keeps may) may.piece left

-- payloads with the one in doubt or without are entries with the one in doubt or without
doubt_recovers : (k base : ℕ) (entries : List Entry) (doubt : Option Entry) (bytes : List ℕ)
    → AreEntries base entries → IfSome doubt (IsNext (base + length entries + 1))
    → RecoversPayloads k (forms entries) (option_map entry_form doubt) bytes
    → RecoversWith k base entries doubt bytes
doubt_recovers k base entries None bytes are next recovers =
    record { payloads = recovers; are = are }
doubt_recovers k base entries (Some entry) bytes are next recovers =
    RecoversWith-either k base entries entry bytes are next recovers

-- entries recover with one in doubt or without
without_doubt : (k base : ℕ) (entries : List Entry) (doubt : Option Entry) (bytes : List ℕ)
    → RecoversTo k base entries bytes → RecoversWith k base entries doubt bytes
without_doubt k base entries None bytes recovers = recovers
without_doubt k base entries (Some entry) bytes recovers = inl recovers

-- entries with one more or without are among those that may be left
among_either : (k base : ℕ) (entries : List Entry) (doubt : Option Entry) (entry : Entry)
    (bytes : List ℕ) → RecoversWith k base entries (Some entry) bytes
    → RecoversAmong k base entries doubt entry bytes
among_either k base entries doubt entry bytes (inl recovers) =
    inl (without_doubt k base entries doubt bytes recovers)
among_either k base entries doubt entry bytes (inr recovers) = inr recovers

-- what a crash leaves of payloads, as entries
among_payloads : (k base : ℕ) (entries : List Entry) (doubt : Option Entry) (entry : Entry)
    (bytes : List ℕ) → AreEntries base entries
    → IfSome doubt (IsNext (base + length entries + 1)) → IsNext (base + length entries + 1) entry
    → RecoversOneOf k (forms entries) (option_map entry_form doubt) (entry_form entry) bytes
    → RecoversAmong k base entries doubt entry bytes
among_payloads k base entries doubt entry bytes are next new_next (inl recovers) =
    inl (doubt_recovers k base entries doubt bytes are next recovers)
among_payloads k base entries doubt entry bytes are next new_next (inr recovers) =
    among_either k base entries doubt entry bytes
    (RecoversWith-either k base entries entry bytes are new_next recovers)

-- at any moment of an append
pub Keeps-any_moment : (log : EntryLog) (before after : Past) (base : ℕ) (entries : List Entry)
    (doubt : Option Entry) (draft : Draft) → Keeps log before base entries doubt
    → MayFollow log draft
    → LeavesOnly before after (InFile before (journal_file log.journal.k)
    (RecoversOneOf log.journal.k (forms entries) (option_map entry_form doubt) draft.piece))
    → LeavesOnly before after (InFile before (journal_file log.journal.k)
    (RecoversAmong log.journal.k base entries doubt draft.entry))
Keeps-any_moment log before after base entries doubt draft keeps may only =
    let k = log.journal.k in
    let next = follows_next log before base entries doubt draft keeps may in
    LeavesOnly-wider before after _ _ (InFile-earlier before before (journal_file k) _ _
    (KeepsOthers-same before before (journal_file k) refl)
    (λ held is. among_payloads k base entries doubt draft.entry held keeps.are keeps.next next
    (subst (λ p. RecoversOneOf k (forms entries) (option_map entry_form doubt) p held) may.piece
    is))) only

-- what was written, by its parts
same_log : (entries others bytes more journal longer : ℕ) → entries ≡ others → bytes ≡ more
    → journal ≡ longer
    → (let log : Log = record { entries = entries; bytes = bytes; journal = journal } in log)
    ≡ record { entries = others; bytes = more; journal = longer }
same_log entries others bytes more journal longer one two three = rw (one, two, three) refl

-- a log that was counted up
pub log-counted : (old mid new : EntryLog) (draft : Draft) → MayFollow old draft
    → mid.entries ≡ old.entries → mid.bytes ≡ old.bytes
    → mid.journal.gate ≡ old.journal.gate + 5 + length draft.piece
    → new ≡ record mid {
      number = mid.number + 1;
      entries = mid.entries + 1;
      bytes = mid.bytes + draft.size;
    }
    → log_in new ≡ entry_logging.logged (log_in old) draft.entry
log-counted old mid new draft may entries bytes gate is =
    ap log_in is
    ∙ same_log (mid.entries + 1) (old.entries + 1) (mid.bytes + draft.size)
    (old.bytes + length (entry_form draft.entry)) (mid.journal.gate + 1)
    (old.journal.gate + 1 + length (entry_form draft.entry) + 5) (omega (arith, entries))
    (omega (arith, bytes, may.size)) (omega (arith, gate, ap length may.piece))

-- a log whose gate is where it was
pub log-kept : (old new : EntryLog) → new.entries ≡ old.entries → new.bytes ≡ old.bytes
    → new.journal.gate ≡ old.journal.gate → log_in new ≡ log_in old
log-kept old new entries bytes gate =
    same_log new.entries old.entries new.bytes old.bytes (new.journal.gate + 1)
    (old.journal.gate + 1) entries bytes (ap (λ n. n + 1) gate)
