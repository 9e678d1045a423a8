-- Lemmas about specs/Entries.antt: one entry more.
use Rattle.std.proofs.Common.{◌≡◌, inl, inr, ℕ, ◌+◌, false, List, [], ◌∷◌, ◌++◌, length, Option, Some, None, refl, sym, subst, arith}
use Rattle.std.specs.List.{AllByRecursion}
use Rattle.std.proofs.lemmas.List.{map-append}
use Rattle.disk_model.specs.Past.{Past, seen}
use Rattle.disk_model.specs.Images.{EachHolds}
use Rattle.site_types.specs.declared.entry.Entry.{Entry}
use Rattle.byte_forms.specs.Entries.{entry_form, IsEntry}
use Rattle.journal.specs.Form.{journal_file, front, Recovers, RecoversEither}
use Rattle.journal.specs.Journal.{JournalValue, Holds}
use Rattle.journal.proofs.FormLemmas.{RecoversEither-in_doubt}
use Rattle.entry_log.specs.declared.log.EntryLog.{EntryLog}
use Rattle.entry_log.specs.Entries.{forms, AreNumbered, AreEntries, RecoversTo, RecoversWith}
use Rattle.entry_log.specs.Log.{IsNext, Keeps, fresh_log}

-- entries that have forms do so with one more that has one
each-push : (entries : List Entry) (entry : Entry) → AllByRecursion IsEntry entries → IsEntry entry
    → AllByRecursion IsEntry (entries ++ entry ∷ [])
each-push [] entry each is = (is, each)
each-push (first ∷ entries) entry each is = (each.0, each-push entries entry each.1 is)

-- numbers go on with the next one
numbers-push : (number : ℕ) (entries : List Entry) (entry : Entry) → AreNumbered number entries
    → entry.number ≡ number + length entries + 1 → AreNumbered number (entries ++ entry ∷ [])
numbers-push number [] entry are is = (omega (arith, is), tt)
numbers-push number (first ∷ entries) entry are is =
    (are.0, numbers-push (number + 1) entries entry are.1 (omega (arith, is)))

-- entries that may stand in a journal do so with the next one
pub AreEntries-push : (number : ℕ) (entries : List Entry) (entry : Entry) → AreEntries number entries
    → IsNext (number + length entries + 1) entry → AreEntries number (entries ++ entry ∷ [])
AreEntries-push number entries entry are next = record {
  each = each-push entries entry are.each next.is;
  numbers = numbers-push number entries entry are.numbers next.number;
}

-- the forms of one entry more
pub forms-push : (entries : List Entry) (entry : Entry)
    → forms (entries ++ entry ∷ []) ≡ forms entries ++ entry_form entry ∷ []
forms-push entries entry = map-append entry_form entries (entry ∷ [])

-- how many entries there are with one more
pub length-push : (entries : List Entry) (entry : Entry)
    → length (entries ++ entry ∷ []) ≡ length entries + 1
length-push [] entry = refl
length-push (first ∷ entries) entry = omega (arith, length-push entries entry)

-- a file that recovers to the payloads of entries, and of the next one
pub RecoversTo-push : (k number : ℕ) (entries : List Entry) (entry : Entry) (bytes : List ℕ)
    → AreEntries number entries → IsNext (number + length entries + 1) entry
    → Recovers k (forms entries ++ entry_form entry ∷ []) bytes
    → RecoversTo k number (entries ++ entry ∷ []) bytes
RecoversTo-push k number entries entry bytes are next recovers = record {
  payloads = subst (λ l. Recovers k l bytes) (sym (forms-push entries entry)) recovers;
  are = AreEntries-push number entries entry are next;
}

-- payloads with one more or without are entries with one more or without
pub RecoversWith-either : (k number : ℕ) (entries : List Entry) (entry : Entry) (bytes : List ℕ)
    → AreEntries number entries → IsNext (number + length entries + 1) entry
    → RecoversEither k (forms entries) (entry_form entry) bytes
    → RecoversWith k number entries (Some entry) bytes
RecoversWith-either k number entries entry bytes are next (inl recovers) =
    inl (record { payloads = recovers; are = are })
RecoversWith-either k number entries entry bytes are next (inr recovers) =
    inr (RecoversTo-push k number entries entry bytes are next recovers)

-- whatever a crash leaves of what a log keeps recovers to its entries
pub Keeps-recovers : (log : EntryLog) (past : Past) (base : ℕ) (entries : List Entry)
    (doubt : Option Entry) → Keeps log past base entries doubt
    → EachHolds past (journal_file log.journal.k) (RecoversWith log.journal.k base entries doubt)
Keeps-recovers log past base entries None keeps held is =
    record { payloads = keeps.holds.each held is; are = keeps.are }
Keeps-recovers log past base entries (Some entry) keeps held is =
    RecoversWith-either log.journal.k base entries entry held keeps.are keeps.next
    (RecoversEither-in_doubt log.journal.k (forms entries) log.journal.gate keeps.holds.gate
    (entry_form entry) held (keeps.holds.each held is))

-- a log of a new journal keeps no entries
pub Keeps-fresh : (log : EntryLog) (journal : JournalValue) (past : Past) (number : ℕ)
    → log ≡ fresh_log journal number → Holds journal past [] → Keeps log past number [] None
Keeps-fresh log journal past number is holds =
    subst (λ l. Keeps l past number [] None) (sym is) (record {
      holds = holds;
      are = record { each = tt; numbers = tt };
      number = omega arith;
      next = tt;
    })

-- a log that was read to its end, of a file that is all on the disk, keeps its entries
pub Keeps-recovered : (log : EntryLog) (past : Past) (base : ℕ) (entries : List Entry)
    → log.journal.pending ≡ false
    → log.journal.gate ≡ length (front log.journal.k (forms entries))
    → log.number ≡ base + length entries
    → RecoversTo log.journal.k base entries (seen past (journal_file log.journal.k))
    → EachHolds past (journal_file log.journal.k)
    (λ held. held ≡ seen past (journal_file log.journal.k)) → Keeps log past base entries None
Keeps-recovered log past base entries sure gate number recovers synced = record {
  holds = record {
    sure = sure;
    gate = gate;
    each = λ held is. subst (Recovers log.journal.k (forms entries)) (sym (synced held is))
        recovers.payloads;
  };
  are = recovers.are;
  number = number;
  next = tt;
}
