-- Runs of calls on one file of a disk.
use Rattle.std.specs.Prelude.{ℕ, ◌≡◌, ◌≢◌, ◌⊎◌, List}
use Rattle.disk_model.specs.Past.{Image, Past, seen}
use Rattle.disk_model.specs.Images.{Torn, Shortened, MayHold, EachHolds}

-- the other files read as they did, and a crash leaves nothing new of them
abbrev pub KeepsOthers : Past → Past → ℕ → Type 0
KeepsOthers old new file = (other : ℕ) → other ≢ file
    → (seen new other ≡ seen old other) × EachHolds new other (MayHold old other)

-- P holds of what a crash left of a file, and of each other it left what it might before.
pub record InFile (old : Past) (file : ℕ) (P : List ℕ → Type 0) (image : Image) : Type 0 where
  pub own : P (image file)
  pub others : (other : ℕ) → other ≢ file → MayHold old other (image other)

-- what a crash might leave before a write of so many bytes at an offset, with the write done in
-- part
abbrev pub IsTornFrom : Past → ℕ → ℕ → ℕ → List ℕ → Type 0
IsTornFrom old file at count held =
    (was : List ℕ) × MayHold old file was × Torn at count was held

-- what a crash might leave before a cut, or that with the cut done in part
abbrev pub IsCutFrom : Past → ℕ → ℕ → List ℕ → Type 0
IsCutFrom old file size held =
    MayHold old file held ⊎ ((was : List ℕ) × MayHold old file was × Shortened size was held)
