-- The entries in a journal's file: its payloads are their forms, and each has the number after the
-- one before it.
use Rattle.std.specs.Prelude.{ℕ, ◌≡◌, ◌⊎◌, ◌+◌, List, [], ◌∷◌, ◌++◌, length, map, Option, Some, None}
use Rattle.std.specs.List.{AllByRecursion}
use Rattle.site_types.specs.declared.entry.Entry.{Entry}
use Rattle.byte_forms.specs.Entries.{entry_form, IsEntry}
use Rattle.journal.specs.Form.{record_of, front, Fits, Recovers}

-- the payloads of entries: their forms
abbrev pub forms : List Entry → List (List ℕ)
forms entries = map entry_form entries

-- the first entry has the number after this one, and each other the number after the one before it
abbrev pub AreNumbered : ℕ → List Entry → Type 0
AreNumbered number [] = Unit {0}
AreNumbered number (entry ∷ entries) =
    (entry.number ≡ number + 1) × AreNumbered (number + 1) entries

-- Entries that may stand in a journal after an entry with this number: each has a form.
pub record AreEntries (number : ℕ) (entries : List Entry) : Type 0 where
  pub each : AllByRecursion IsEntry entries
  pub numbers : AreNumbered number entries

-- Journal k, whose file has these bytes, recovers to these entries, which follow one with this
-- number.
pub record RecoversTo (k number : ℕ) (entries : List Entry) (bytes : List ℕ) : Type 0 where
  pub payloads : Recovers k (forms entries) bytes
  pub are : AreEntries number entries

-- it recovers to these entries, or, where one is in doubt, to them with that one
abbrev pub RecoversWith : ℕ → ℕ → List Entry → Option Entry → List ℕ → Type 0
RecoversWith k number entries None bytes = RecoversTo k number entries bytes
RecoversWith k number entries (Some entry) bytes =
    RecoversTo k number entries bytes ⊎ RecoversTo k number (entries ++ entry ∷ []) bytes

-- the same, or to them with another one
abbrev pub RecoversAmong : ℕ → ℕ → List Entry → Option Entry → Entry → List ℕ → Type 0
RecoversAmong k number entries doubt entry bytes =
    RecoversWith k number entries doubt bytes ⊎ RecoversTo k number (entries ++ entry ∷ []) bytes

-- After these entries an open gate stands at an offset, and no entry with the next number after it:
-- the record is cut short, or is not the form of one entry, or has another number.
pub record IsBadAt (k number : ℕ) (entries : List Entry) (bytes : List ℕ) (offset : ℕ) : Type 0
  where
    pub are : AreEntries number entries
    pub fit : AllByRecursion Fits (forms entries)
    pub offset_is : offset ≡ length (front k (forms entries))
    pub rest : List ℕ
    pub is : bytes ≡ front k (forms entries) ++ 1 ∷ rest
    pub none : (entry : Entry) (next : ℕ) (more : List ℕ) → IsEntry entry
        → Fits (entry_form entry) → entry.number ≡ number + length entries + 1
        → rest ≡ record_of (entry_form entry) ++ next ∷ more → ⊥
