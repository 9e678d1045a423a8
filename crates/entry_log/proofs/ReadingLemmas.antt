-- A file has one reading as entries, and what a scan reads is that reading.
use Rattle.std.proofs.Common.{◌≡◌, ◌≢◌, ℕ, ◌+◌, ◌<◌, ◌≤◌, List, [], ◌∷◌, ◌++◌, length, drop, get_or, refl, sym, ◌∙◌, ap, subst, arith, append_assoc, take-append-drop, length-drop}
use Rattle.std.specs.List.{AllByRecursion}
use Rattle.std.proofs.lemmas.List.{append-nil, take_all}
use Rattle.site_types.specs.declared.entry.Entry.{Entry}
use Rattle.byte_forms.specs.Entries.{entry_form, IsEntry}
use Rattle.byte_forms.specs.Fronts.{IsAtFront}
use Rattle.entry_codec.specs.Laws.{EntriesHaveOneReading}
use Rattle.entry_codec.proofs.Entries.{entry_reading}
use Rattle.content_codec.proofs.Fronts.{one_reading}
use Rattle.journal.specs.Form.{record_of, opened, front, Fits}
use Rattle.journal.specs.Scan.{ScanValue, HasRead, IsCutShort}
use Rattle.journal.proofs.FormLemmas.{front-push}
use Rattle.journal.proofs.ReadingLemmas.{Recovers-once, same_record, same_tail, after_header, opened-first, opened-none}
use Rattle.entry_log.specs.declared.scan.EntryScan.{EntryScan}
use Rattle.entry_log.specs.Entries.{forms, AreNumbered, AreEntries, RecoversTo, IsBadAt}
use Rattle.entry_log.specs.Scan.{HasReadEntries, IsEntryIn}
use Rattle.entry_log.proofs.EntryLemmas.{AreEntries-push, forms-push, length-push}

-- a form is of one entry
one_entry : EntriesHaveOneReading
one_entry = one_reading entry_reading

-- two entries with the same form are one
pub same_entry : (entry other : Entry) → IsEntry entry → IsEntry other
    → entry_form entry ≡ entry_form other → entry ≡ other
same_entry entry other is other_is same =
    (one_entry entry other [] [] is other_is (ap (λ l. l ++ []) same)).0

-- entries with the same forms are the same
same_entries : (entries others : List Entry) → AllByRecursion IsEntry entries
    → AllByRecursion IsEntry others → forms entries ≡ forms others → entries ≡ others
same_entries [] [] each all same = refl
same_entries [] (other ∷ others) each all same = absurd (omega (arith, ap length same))
same_entries (entry ∷ entries) [] each all same = absurd (omega (arith, ap length same))
same_entries (entry ∷ entries) (other ∷ others) each all same =
    let first : entry_form entry ≡ entry_form other = ap (λ l. get_or l 0 []) same in
    let rest : forms entries ≡ forms others = ap (drop 1) same in
    ap (λ e. e ∷ entries) (same_entry entry other each.0 all.0 first)
    ∙ ap (λ es. other ∷ es) (same_entries entries others each.1 all.1 rest)

-- a file recovers to one list of entries
pub RecoversTo-once : (k number : ℕ) (entries others : List Entry) (bytes : List ℕ)
    → RecoversTo k number entries bytes → RecoversTo k number others bytes → entries ≡ others
RecoversTo-once k number entries others bytes one other =
    same_entries entries others one.are.each other.are.each
    (Recovers-once k (forms entries) (forms others) bytes one.payloads other.payloads)

-- What follows a number of the records of a file, if its gate is open, is the next record.
next_opened : (number : ℕ) (entries others : List Entry) (gate : ℕ) (rest after : List ℕ)
    → AllByRecursion IsEntry entries → AreNumbered number entries
    → opened (forms entries) ++ gate ∷ rest ≡ opened (forms others) ++ 1 ∷ after → gate ≢ 1
    → AllByRecursion Fits (forms entries) → AllByRecursion Fits (forms others)
    → ((entry : Entry) (next : ℕ) (more : List ℕ) → IsEntry entry → Fits (entry_form entry)
    → entry.number ≡ number + length others + 1
    → after ≡ record_of (entry_form entry) ++ next ∷ more → ⊥) → ⊥
next_opened number [] [] gate rest after each numbers is closed fit fits none =
    closed (ap (λ l. get_or l 0 0) (sym (opened-none (gate ∷ rest)) ∙ is ∙ opened-none (1 ∷ after)))
next_opened number [] (second ∷ others) gate rest after each numbers is closed fit fits none =
    closed (ap (λ l. get_or l 0 0) (sym (opened-none (gate ∷ rest)) ∙ is
    ∙ opened-first (entry_form second) (forms others) (1 ∷ after)))
next_opened number (first ∷ []) [] gate rest after each numbers is closed fit fits none =
    none first gate rest each.0 fit.0 (omega (arith, numbers.0))
    (sym (same_tail 1 1 _ _ (sym (opened-first (entry_form first) [] (gate ∷ rest)) ∙ is
    ∙ opened-none (1 ∷ after)))
    ∙ ap (λ l. record_of (entry_form first) ++ l) (opened-none (gate ∷ rest)))
next_opened number (first ∷ next ∷ entries) [] gate rest after each numbers is closed fit fits none =
    none first 1 (record_of (entry_form next) ++ (opened (forms entries) ++ gate ∷ rest)) each.0
    fit.0 (omega (arith, numbers.0))
    (sym (same_tail 1 1 _ _ (sym (opened-first (entry_form first) (forms (next ∷ entries))
    (gate ∷ rest)) ∙ is ∙ opened-none (1 ∷ after)))
    ∙ ap (λ l. record_of (entry_form first) ++ l)
    (opened-first (entry_form next) (forms entries) (gate ∷ rest)))
next_opened number (first ∷ entries) (second ∷ others) gate rest after each numbers is closed fit
    fits none =
    let same = same_record (entry_form first) (entry_form second)
    (opened (forms entries) ++ gate ∷ rest) (opened (forms others) ++ 1 ∷ after) fit.0 fits.0
    (same_tail 1 1 _ _ (sym (opened-first (entry_form first) (forms entries) (gate ∷ rest)) ∙ is
    ∙ opened-first (entry_form second) (forms others) (1 ∷ after))) in
    next_opened (number + 1) entries others gate rest after each.1 numbers.1 same.tail closed fit.1
    fits.1 (λ entry next more is_entry fit_entry number_is follows.
    none entry next more is_entry fit_entry (omega (arith, number_is)) follows)

-- a file that recovers is bad nowhere
pub RecoversTo-sound : (k number : ℕ) (entries others : List Entry) (bytes : List ℕ) (offset : ℕ)
    → RecoversTo k number entries bytes → IsBadAt k number others bytes offset → ⊥
RecoversTo-sound k number entries others bytes offset one bad =
    next_opened number entries others one.payloads.gate one.payloads.rest bad.rest one.are.each
    one.are.numbers
    (after_header k (forms entries) (forms others) (one.payloads.gate ∷ one.payloads.rest)
    (1 ∷ bad.rest) (sym one.payloads.is ∙ bad.is)) one.payloads.closed one.payloads.fit bad.fit
    bad.none

-- a record that is cut short is no entry
pub IsBadAt-short : (k number : ℕ) (entries : List Entry) (bytes : List ℕ) (offset : ℕ)
    → AreEntries number entries → AllByRecursion Fits (forms entries)
    → IsCutShort k (forms entries) bytes offset → IsBadAt k number entries bytes offset
IsBadAt-short k number entries bytes offset are fit short = record {
  are = are;
  fit = fit;
  offset_is = short.offset_is;
  rest = short.rest;
  is = short.is;
  none = λ entry next more is fits number_is follows.
      short.none (entry_form entry) next more fits follows;
}

-- a record whose payload is the form of no entry with the next number
pub IsBadAt-payload : (scan : ScanValue) (number offset : ℕ) (entries : List Entry)
    (payload bytes : List ℕ) → AreEntries number entries → AllByRecursion Fits (forms entries)
    → offset ≡ length (front scan.k (forms entries))
    → HasRead scan bytes (forms entries ++ payload ∷ []) → Fits payload
    → ((entry : Entry) → IsEntry entry → entry.number ≡ number + length entries + 1
    → payload ≡ entry_form entry → ⊥)
    → IsBadAt scan.k number entries bytes offset
IsBadAt-payload scan number offset entries payload bytes are fit offset_is read fits none = record {
  are = are;
  fit = fit;
  offset_is = offset_is;
  rest = record_of payload ++ drop scan.gate bytes;
  is = sym (take-append-drop scan.gate bytes) ∙ ap (λ l. l ++ drop scan.gate bytes) read.read
      ∙ ap (λ l. l ++ drop scan.gate bytes) (front-push scan.k (forms entries) payload)
      ∙ append_assoc (front scan.k (forms entries)) (1 ∷ record_of payload) (drop scan.gate bytes);
  none = λ entry next more is entry_fits number_is follows.
      none entry is number_is
      (same_record payload (entry_form entry) (drop scan.gate bytes) (next ∷ more) fits entry_fits
      follows).payload;
}

-- the last of some payloads fits
pub fit-last : (payloads : List (List ℕ)) (payload : List ℕ)
    → AllByRecursion Fits (payloads ++ payload ∷ []) → Fits payload
fit-last [] payload fit = fit.0
fit-last (first ∷ payloads) payload fit = fit-last payloads payload fit.1

-- bytes that are a form stand at their own front
pub front_of_form : (entry : Entry) (bytes : List ℕ) → IsEntry entry → bytes ≡ entry_form entry
    → IsAtFront entry_form IsEntry bytes entry (length bytes)
front_of_form entry bytes is same = record {
  has_form = is;
  within = omega arith;
  is_form = take_all (length bytes) bytes (omega arith) ∙ same;
}

-- an entry at the front of a form is that of the form, and takes all of it
pub whole_form : (entry other : Entry) (bytes : List ℕ) (size : ℕ)
    → IsAtFront entry_form IsEntry bytes other size → IsEntry entry → bytes ≡ entry_form entry
    → (other ≡ entry) × (drop size bytes ≡ [])
whole_form entry other bytes size front is same =
    one_entry other entry (drop size bytes) [] front.has_form is
    (ap (λ l. l ++ drop size bytes) (sym front.is_form) ∙ take-append-drop size bytes ∙ same
    ∙ sym (append-nil (entry_form entry)))

-- an entry that takes all of some bytes is in them
pub IsEntryIn-whole : (number : ℕ) (entry : Entry) (bytes : List ℕ) (size : ℕ)
    → IsAtFront entry_form IsEntry bytes entry size → length bytes ≤ size → entry.number ≡ number
    → IsEntryIn bytes number entry
IsEntryIn-whole number entry bytes size front all number_is = record {
  is = front.has_form;
  form = sym (take_all size bytes all) ∙ front.is_form;
  number_is = number_is;
}

-- no entry is in a payload with bytes after the entry at its front
pub not_whole : (number : ℕ) (other : Entry) (bytes : List ℕ) (size : ℕ)
    → IsAtFront entry_form IsEntry bytes other size → size < length bytes → (entry : Entry)
    → IsEntryIn bytes number entry → ⊥
not_whole number other bytes size front short entry is =
    let whole = whole_form entry other bytes size front is.is is.form in
    let none : length (drop size bytes) ≡ 0 = ap length whole.1 in
    omega (arith, length-drop size bytes, none)

-- nor in one whose entry has another number
pub not_next : (number : ℕ) (other : Entry) (bytes : List ℕ) (size : ℕ)
    → IsAtFront entry_form IsEntry bytes other size → (other.number ≡ number → ⊥) → (entry : Entry)
    → IsEntryIn bytes number entry → ⊥
not_next number other bytes size front differs entry is =
    differs (ap (λ e. e.number) (whole_form entry other bytes size front is.is is.form).0
    ∙ is.number_is)

-- nor in one with no entry at its front
pub not_any : (number : ℕ) (bytes : List ℕ)
    → ((value : Entry) (size : ℕ) → IsAtFront entry_form IsEntry bytes value size → ⊥)
    → (entry : Entry) → IsEntryIn bytes number entry → ⊥
not_any number bytes none entry is =
    none entry (length bytes) (front_of_form entry bytes is.is is.form)

-- one more entry was read
pub HasReadEntries-push : (old new : EntryScan) (bytes : List ℕ) (base : ℕ) (entries : List Entry)
    (payload : List ℕ) (entry : Entry) → HasReadEntries old bytes base entries
    → HasRead new.scan bytes (forms entries ++ payload ∷ [])
    → IsEntryIn payload (old.number + 1) entry → new.number ≡ entry.number
    → HasReadEntries new bytes base (entries ++ entry ∷ [])
HasReadEntries-push old new bytes base entries payload entry read records is number = record {
  records = subst (HasRead new.scan bytes)
      (ap (λ p. forms entries ++ p ∷ []) is.form ∙ sym (forms-push entries entry)) records;
  are = AreEntries-push base entries entry read.are
      (record { is = is.is; number = omega (arith, is.number_is, read.number) });
  number = omega (arith, number, is.number_is, read.number, length-push entries entry);
}

-- a payload was read in which no next entry is
pub IsBadAt-none : (old : EntryScan) (new : ScanValue) (bytes : List ℕ) (base offset : ℕ)
    (entries : List Entry) (payload : List ℕ) → HasReadEntries old bytes base entries
    → HasRead new bytes (forms entries ++ payload ∷ []) → new.k ≡ old.scan.k
    → offset ≡ old.scan.gate
    → ((entry : Entry) → IsEntryIn payload (old.number + 1) entry → ⊥)
    → IsBadAt old.scan.k base entries bytes offset
IsBadAt-none old new bytes base offset entries payload read records same_k offset_is none =
    subst (λ k. IsBadAt k base entries bytes offset) same_k
    (IsBadAt-payload new base offset entries payload bytes read.are read.records.fit
    (offset_is ∙ read.records.gate ∙ ap (λ k. length (front k (forms entries))) (sym same_k))
    records (fit-last (forms entries) payload records.fit)
    (λ entry is number form. none entry
    (record { is = is; form = form; number_is = omega (arith, number, read.number) })))
