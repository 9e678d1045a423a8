-- What clauses see of a disk in memory.
use Rattle.std.specs.Prelude.{ℕ, ◌≡◌, ◌+◌, ◌<◌, ◌≤◌, length}
use Rattle.disk_model.specs.Faults.{last_count}
use Rattle.disk_model.specs.CallCount.{CallCount}
use Rattle.disk_model.specs.Files.{FileBytes, bytes_of}
use Rattle.disk_model.specs.Past.{Past, seen}
use Rattle.disk_model.specs.Story.{StoryValue, past_of}

-- a disk in memory: what it was told, and its calls
pub record MemoryValue : Type 0 where
  pub story : StoryValue
  pub calls : CallCount

-- the past of its files
abbrev pub memory_past : MemoryValue → Past
memory_past disk = past_of disk.story

-- the length of a file
abbrev pub memory_size : MemoryValue → ℕ → ℕ
memory_size disk file = length (seen (memory_past disk) file)

-- a write of so many bytes has no room: with it more bytes would be written than there is memory
-- for
abbrev pub HasNoRoom : MemoryValue → ℕ → Type 0
HasNoRoom disk count = disk.story.room < length disk.story.written + count

-- The files hold what the record tells, no file more bytes than were written, and there is memory
-- for each call that does not fail.
pub record IsKept (files : FileBytes) (story : StoryValue) (calls : CallCount) : Type 0 where
  pub same : (file : ℕ) → seen (past_of story) file ≡ bytes_of files file
  pub four : length files.files ≡ 4
  pub within : (file : ℕ) → length (bytes_of files file) ≤ length story.written
  pub room : files.room ≡ story.room
  pub turns : length story.told ≤ calls.made
  pub most : calls.most ≤ story.most
  pub last : calls.most ≤ last_count
