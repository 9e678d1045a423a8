-- What a crash may leave of a disk: now, and at each moment since an earlier one.
use Rattle.std.specs.Prelude.{ℕ, ◌≡◌, ◌+◌, ◌≤◌, ◌⊎◌, ◌==◌, max, List, [], ◌∷◌, length, take, drop, MatchBool}
use Rattle.disk_model.specs.Past.{Image, Deed, did_write, did_cut, did_sync, Call, Past, after_calls, seen, with_call}

-- A write of so many bytes at an offset, done in part: any bytes in the range and past the old end,
-- some length up to the new one, and the same bytes elsewhere.
pub record Torn (at count : ℕ) (old new : List ℕ) : Type 0 where
  pub before : take at new ≡ take at old
  pub after : drop (at + count) new ≡ drop (at + count) old
  pub no_shorter : length old ≤ length new
  pub no_longer : length new ≤ max (length old) (at + count)

-- A cut to a length, done in part: some length between, and the same bytes up to it.
pub record Shortened (size : ℕ) (old new : List ℕ) : Type 0 where
  pub no_shorter : size ≤ length new
  pub front : take (length new) old ≡ new

-- What a crash after a call may leave of its file besides what a read gives, by what it might leave
-- before the call: the call done in part. After a sync it leaves nothing else.
abbrev pub LeavesPart : Deed → (List ℕ → Type 0) → List ℕ → Type 0
LeavesPart (did_write at count) before bytes =
    (was : List ℕ) × before was × Torn at count was bytes
LeavesPart (did_cut size) before bytes =
    (was : List ℕ) × before was × Shortened size was bytes
LeavesPart did_sync before bytes = ⊥

-- what a crash after these calls may leave of a file
unfoldable pub MayHoldAfter : Image → List Call → ℕ → List ℕ → Type 0
MayHoldAfter start [] file bytes = bytes ≡ start file
MayHoldAfter start (call ∷ calls) file bytes = MatchBool (call.file == file)
    ((bytes ≡ call.after) ⊎ LeavesPart call.deed (MayHoldAfter start calls file) bytes)
    (MayHoldAfter start calls file bytes)

-- what a crash may leave of a file
abbrev pub MayHold : Past → ℕ → List ℕ → Type 0
MayHold past file bytes = MayHoldAfter past.start past.calls file bytes

-- a crash may leave this of each file
abbrev pub IsImage : Past → Image → Type 0
IsImage past image = (file : ℕ) → MayHold past file (image file)

-- P holds of whatever a crash leaves of a file
abbrev pub EachHolds : Past → ℕ → (List ℕ → Type 0) → Type 0
EachHolds past file P = (bytes : List ℕ) → MayHold past file bytes → P bytes

-- P holds of whatever a crash leaves
abbrev pub EachImage : Past → (Image → Type 0) → Type 0
EachImage past P = (image : Image) → IsImage past image → P image

-- at each moment from a past on, while these calls are made, P holds of whatever a crash leaves
abbrev pub EachMoment : Past → List Call → (Image → Type 0) → Type 0
EachMoment past [] P = EachImage past P
EachMoment past (call ∷ calls) P =
    EachImage (after_calls (call ∷ calls) past) P × EachMoment past calls P

-- A disk went on from one past to another, and P holds of whatever a crash left at any moment
-- since.
pub record LeavesOnly (old new : Past) (P : Image → Type 0) : Type 0 where
  pub calls : List Call
  pub goes_on : new ≡ after_calls calls old
  pub each : EachMoment old calls P

-- a write did all of its work, a part of it or none
abbrev pub TearsWrite : Past → Past → ℕ → ℕ → ℕ → Type 0
TearsWrite old new file at count = (new ≡ old) ⊎ ((after : List ℕ)
    × Torn at count (seen old file) after
    × (new ≡ with_call old (record { file = file; deed = did_write at count; after = after })))

-- a cut did all of its work, a part of it or none
abbrev pub TearsCut : Past → Past → ℕ → ℕ → Type 0
TearsCut old new file size = (new ≡ old) ⊎ ((after : List ℕ)
    × Shortened size (seen old file) after
    × (new ≡ with_call old (record { file = file; deed = did_cut size; after = after })))
