-- The record of what a disk in memory was told, and the past that it makes.
use Rattle.std.specs.Prelude.{ℕ, ◌≡◌, ◌+◌, ◌≤◌, List, [], ◌∷◌, length, take, drop, Vec, vec_len, vec_capacity}
use Rattle.std.specs.declared.alloc.Global.{Global}
use Rattle.disk_model.specs.Past.{Past, with_write, with_cut, with_sync}
use Rattle.disk_model.specs.declared.told.Told.{Told}
use Rattle.disk_model.specs.declared.told.Told.TheVariants.{Write, Cut, Sync}

-- the calls that did something, in order, the bytes of all writes among them, and the most calls
-- and bytes that there is memory for
pub record StoryValue : Type 0 where
  pub told : List Told
  pub written : List ℕ
  pub most : ℕ
  pub room : ℕ

-- the past after calls that follow another past, whose writes take their bytes in order
abbrev pub past_after : Past → List ℕ → List Told → Past
past_after past written [] = past
past_after past written (Write file at count ∷ told) =
    past_after (with_write past file at (take count written)) (drop count written) told
past_after past written (Cut file size ∷ told) =
    past_after (with_cut past file size) written told
past_after past written (Sync file ∷ told) = past_after (with_sync past file) written told

-- four empty files
abbrev pub fresh_past : Past
fresh_past = record { start = λ _. []; calls = [] }

-- the past that a record makes, from four empty files on
abbrev pub past_of : StoryValue → Past
past_of story = past_after fresh_past story.written story.told

-- how many bytes the writes took
abbrev pub taken_by : List Told → ℕ
taken_by [] = 0
taken_by (Write file at count ∷ told) = count + taken_by told
taken_by (Cut file size ∷ told) = taken_by told
taken_by (Sync file ∷ told) = taken_by told

-- the writes took all bytes, and there is the memory that is promised
pub record IsStory (told : Vec Told Global) (written : Vec ℕ Global) (most room : ℕ) : Type 0
  where
    pub taken : taken_by told.items ≡ length written.items
    pub within : vec_len written ≤ room
    pub bytes : room ≤ vec_capacity written
    pub calls : most ≤ vec_capacity told
