-- The past of a disk of four files, with the numbers 0 to 3: what its calls did to them, and what a
-- read of each gives.
use Rattle.std.specs.Prelude.{ℕ, ◌+◌, ◌==◌, if◌then◌else◌, List, [], ◌∷◌, ◌++◌, length, take, drop}

-- The bytes of each of the four files, by its number.
abbrev pub Image : Type 0
Image = ℕ → List ℕ

-- What a call did to a file, whole or in part: it wrote so many bytes from an offset on, cut the
-- file to a length, or brought all of it to the disk.
pub data Deed : Type 0 where
  did_write : (at count : ℕ) → Deed
  did_cut : (size : ℕ) → Deed
  did_sync : Deed

-- A call that did something: to which file, and what a read of that file gives after it.
pub record Call : Type 0 where
  pub file : ℕ
  pub deed : Deed
  pub after : List ℕ

-- What was on the disk at first, all of it safe from a crash, and the calls since, the newest
-- first.
pub record Past : Type 0 where
  pub start : Image
  pub calls : List Call

-- a past, and then these calls
abbrev pub after_calls : List Call → Past → Past
after_calls calls past = record { start = past.start; calls = calls ++ past.calls }

-- what a read of a file gives after these calls
unfoldable pub seen_after : Image → List Call → Image
seen_after start [] file = start file
seen_after start (call ∷ calls) file =
    if call.file == file then call.after else seen_after start calls file

-- what a read of a file gives
abbrev pub seen : Past → Image
seen past file = seen_after past.start past.calls file

-- bytes with others written over them at an offset, and past their end
abbrev pub written : List ℕ → ℕ → List ℕ → List ℕ
written old at bytes = take at old ++ bytes ++ drop (at + length bytes) old

-- a past, and then one call more
abbrev pub with_call : Past → Call → Past
with_call past call = after_calls (call ∷ []) past

-- after bytes were written to a file at an offset
abbrev pub with_write : Past → ℕ → ℕ → List ℕ → Past
with_write past file at bytes = with_call past (record {
  file = file;
  deed = did_write at (length bytes);
  after = written (seen past file) at bytes;
})

-- after a file was cut to a length
abbrev pub with_cut : Past → ℕ → ℕ → Past
with_cut past file size =
    with_call past (record { file = file; deed = did_cut size; after = take size (seen past file) })

-- after a file was brought to the disk
abbrev pub with_sync : Past → ℕ → Past
with_sync past file =
    with_call past (record { file = file; deed = did_sync; after = seen past file })
