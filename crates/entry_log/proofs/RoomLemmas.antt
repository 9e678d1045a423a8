-- What it means that a log has room.
use Rattle.std.proofs.Common.{◌≡◌, ◌↔◌, ◌⊎◌, inl, inr, ℕ, ◌+◌, ◌-◌, ◌<◌, ◌≤◌, Bool, true, false, not, ◌&&◌, ◌||◌, nat_lt, nat_le, ◌==◌, IsTrue, length, refl, sym, ◌∙◌, ap, arith}
use Rattle.std.proofs.lemmas.Bool.{true≢false, and_parts, not-true, cases_lt, ltb-false, leb-false, eqb-false, lt-ltb, le-ltb, le-leb, lt-leb, and_right, and_from, not_from_false, ne_eqb}
use Rattle.site_types.specs.declared.entry.Entry.{Entry}
use Rattle.byte_forms.specs.Entries.{entry_form, IsEntry}
use Rattle.site_history.specs.Log.{LAST_NUMBER, MAX_ENTRIES, MAX_ENTRY_BYTES, MAX_JOURNAL, RECORD_FRAME, log_room}
use Rattle.entry_log.specs.declared.draft.Draft.{Draft}
use Rattle.entry_log.specs.declared.log.EntryLog.{EntryLog}
use Rattle.entry_log.specs.Log.{entry_logging, log_in, MayFollow}

-- what is not one or the other is neither
or_none : (x y : Bool) → (x || y) ≡ false → (x ≡ false) × (y ≡ false)
or_none false y is = (refl, is)
or_none true y is = absurd (true≢false is)

-- What a log has if it has room for an entry whose form has so many bytes.
pub record HasRoom (number count taken long size : ℕ) : Type 0 where
  pub not_last : number ≡ LAST_NUMBER → ⊥
  pub entries : count < MAX_ENTRIES
  pub bytes : taken + size ≤ MAX_ENTRY_BYTES
  pub journal : long + size + 5 ≤ MAX_JOURNAL

-- a log that has room has all of that
pub room_facts : (number entries bytes journal size : ℕ)
    → (not (number == LAST_NUMBER) && log_room entries bytes journal (size + RECORD_FRAME)) ≡ true
    → HasRoom number entries bytes journal size
room_facts number entries bytes journal size is =
    let parts = and_parts (not (number == LAST_NUMBER))
    (log_room entries bytes journal (size + RECORD_FRAME)) is in
    let x = nat_le MAX_ENTRIES entries in
    let y = nat_lt MAX_ENTRY_BYTES (bytes + (size + RECORD_FRAME) - RECORD_FRAME) in
    let z = nat_lt MAX_JOURNAL (journal + (size + RECORD_FRAME)) in
    let none = or_none x (y || z) (not-true (x || (y || z)) parts.1) in
    let rest = or_none y z none.1 in
    let few : entries < MAX_ENTRIES = leb-false MAX_ENTRIES entries none.0 in
    let within : bytes + (size + RECORD_FRAME) - RECORD_FRAME ≤ MAX_ENTRY_BYTES =
    ltb-false MAX_ENTRY_BYTES (bytes + (size + RECORD_FRAME) - RECORD_FRAME) rest.0 in
    let short : journal + (size + RECORD_FRAME) ≤ MAX_JOURNAL =
    ltb-false MAX_JOURNAL (journal + (size + RECORD_FRAME)) rest.1 in
    record {
      not_last = eqb-false number LAST_NUMBER (not-true (number == LAST_NUMBER) parts.0);
      entries = few;
      bytes = omega (arith, within);
      journal = omega (arith, short);
    }

-- the second of three
second_of : (x y z : Bool) → y ≡ true → not (x || (y || z)) ≡ false
second_of true y z is = refl
second_of false true z is = refl
second_of false false z is = absurd (true≢false (sym is))

-- the third of three
third_of : (x y z : Bool) → z ≡ true → not (x || (y || z)) ≡ false
third_of true y z is = refl
third_of false true z is = refl
third_of false false true is = refl
third_of false false false is = absurd (true≢false (sym is))

-- a log with the most entries is full
pub full-entries : (entries bytes journal more : ℕ) → MAX_ENTRIES ≤ entries
    → log_room entries bytes journal more ≡ false
full-entries entries bytes journal more full =
    ap (λ b. not (b || (nat_lt MAX_ENTRY_BYTES (bytes + more - RECORD_FRAME)
    || nat_lt MAX_JOURNAL (journal + more)))) (le-leb MAX_ENTRIES entries full)

-- and one whose entries would have too many bytes
pub full-bytes : (entries bytes journal more : ℕ)
    → MAX_ENTRY_BYTES < bytes + more - RECORD_FRAME → log_room entries bytes journal more ≡ false
full-bytes entries bytes journal more full =
    second_of (nat_le MAX_ENTRIES entries) (nat_lt MAX_ENTRY_BYTES (bytes + more - RECORD_FRAME))
    (nat_lt MAX_JOURNAL (journal + more))
    (lt-ltb MAX_ENTRY_BYTES (bytes + more - RECORD_FRAME) full)

-- and one whose journal would be too long
pub full-journal : (entries bytes journal more : ℕ) → MAX_JOURNAL < journal + more
    → log_room entries bytes journal more ≡ false
full-journal entries bytes journal more full =
    third_of (nat_le MAX_ENTRIES entries) (nat_lt MAX_ENTRY_BYTES (bytes + more - RECORD_FRAME))
    (nat_lt MAX_JOURNAL (journal + more)) (lt-ltb MAX_JOURNAL (journal + more) full)

-- the greater of two
more_than : (most held : ℕ) → (held ≤ most → ⊥) → (most < held) ⊎ (held ≤ most) → most < held
more_than most held none (inl more) = more
more_than most held none (inr within) = absurd (none within)

-- what is not at most is more
pub not_within : (most held : ℕ) → (held ≤ most → ⊥) → most < held
not_within most held none = more_than most held none (cases_lt most held)

-- a test that something fits
fits_is : (fits : Bool) (most held : ℕ) → (IsTrue fits ↔ (held ≤ most)) → fits ≡ not (nat_lt most held)
fits_is true most held iff = sym (ap not (le-ltb most held (iff.0 refl)))
fits_is false most held iff =
    sym (ap not (lt-ltb most held (more_than most held (λ within. true≢false (sym (iff.1 within)))
    (cases_lt most held))))

-- where all else has room, the journal decides
pub room-journal : (fits : Bool) (entries bytes journal more : ℕ) → entries < MAX_ENTRIES
    → bytes + more - RECORD_FRAME ≤ MAX_ENTRY_BYTES
    → (IsTrue fits ↔ (journal + more ≤ MAX_JOURNAL)) → fits ≡ log_room entries bytes journal more
room-journal fits entries bytes journal more few within iff =
    fits_is fits MAX_JOURNAL (journal + more) iff
    ∙ sym (ap (λ b. not (b || nat_lt MAX_JOURNAL (journal + more)))
    (le-ltb MAX_ENTRY_BYTES (bytes + more - RECORD_FRAME) within))
    ∙ sym (ap (λ b. not (b || (nat_lt MAX_ENTRY_BYTES (bytes + more - RECORD_FRAME)
    || nat_lt MAX_JOURNAL (journal + more)))) (lt-leb MAX_ENTRIES entries few))

-- an entry has no room where its form has none
pub has_room-false : (log : EntryLog) (entry : Entry) (size : ℕ) → size ≡ length (entry_form entry)
    → log_room log.entries log.bytes (log.journal.gate + 1) (size + RECORD_FRAME) ≡ false
    → entry_logging.has_room log.number (log_in log) entry ≡ false
has_room-false log entry size size_is full =
    and_right (not (log.number == LAST_NUMBER))
    (log_room log.entries log.bytes (log.journal.gate + 1) (length (entry_form entry) + RECORD_FRAME))
    (ap (λ n. log_room log.entries log.bytes (log.journal.gate + 1) (n + RECORD_FRAME)) (sym size_is)
    ∙ full)

-- and the next entry has room where its form has some
pub has_room-true : (log : EntryLog) (entry : Entry) (size : ℕ) → size ≡ length (entry_form entry)
    → IsEntry entry → entry.number ≡ log.number + 1
    → log_room log.entries log.bytes (log.journal.gate + 1) (size + RECORD_FRAME) ≡ true
    → entry_logging.has_room log.number (log_in log) entry ≡ true
has_room-true log entry size size_is is number room =
    and_from (not (log.number == LAST_NUMBER))
    (log_room log.entries log.bytes (log.journal.gate + 1) (length (entry_form entry) + RECORD_FRAME))
    (not_from_false (log.number == LAST_NUMBER)
    (ne_eqb log.number LAST_NUMBER (λ last. omega (arith, is.fits, number, last))))
    (ap (λ n. log_room log.entries log.bytes (log.journal.gate + 1) (n + RECORD_FRAME)) (sym size_is)
    ∙ room)

-- what a log has that may take the entry of a draft
pub room_left : (log : EntryLog) (draft : Draft) → MayFollow log draft
    → HasRoom log.number log.entries log.bytes (log.journal.gate + 1)
    (length (entry_form draft.entry))
room_left log draft may =
    room_facts log.number log.entries log.bytes (log.journal.gate + 1)
    (length (entry_form draft.entry)) may.room
