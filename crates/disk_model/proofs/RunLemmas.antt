-- Lemmas about a run of calls on one file: what a crash leaves of it at any moment has P.
use Rattle.std.proofs.Common.{◌≡◌, inl, ℕ, ◌≤◌, List, length, Result, OnOk, OnErr, refl}
use Rattle.disk_model.specs.declared.fault.DiskFailed.{DiskFailed}
use Rattle.disk_model.specs.Past.{Past, seen, with_write, with_cut, with_sync}
use Rattle.disk_model.specs.Images.{EachHolds, LeavesOnly, TearsWrite, TearsCut}
use Rattle.disk_model.specs.OneFile.{KeepsOthers, InFile, IsTornFrom, IsCutFrom}
use Rattle.disk_model.proofs.ImageLemmas.{MayHold-write, MayHold-cut}
use Rattle.disk_model.proofs.MomentLemmas.{Steps, LeavesOnly-step, LeavesOnly-wider, Steps-write, Steps-cut, Steps-sync}
use Rattle.disk_model.proofs.OneFileLemmas.{KeepsOthers-same, KeepsOthers-then, KeepsOthers-write, KeepsOthers-cut, KeepsOthers-sync, EachHolds-sync, EachHolds-none, InFile-now, InFile-start, InFile-earlier, InFile-then}

-- A run of calls on a file went from one past to another, and what a crash leaves has P.
pub record IsRun (old new : Past) (file : ℕ) (P : List ℕ → Type 0) : Type 0 where
  pub others : KeepsOthers old new file
  pub each : EachHolds new file P
  pub any_moment : LeavesOnly old new (InFile old file P)

-- before the first call
pub IsRun-start : (past : Past) (file : ℕ) (P : List ℕ → Type 0) → EachHolds past file P
    → IsRun past past file P
IsRun-start past file P here = record {
  others = KeepsOthers-same past past file refl;
  each = here;
  any_moment = InFile-start past file P here;
}

-- one call more on the file
pub IsRun-step : (old mid new : Past) (file : ℕ) (P : List ℕ → Type 0) → IsRun old mid file P
    → Steps mid new → KeepsOthers mid new file → EachHolds new file P → IsRun old new file P
IsRun-step old mid new file P so_far steps kept here =
    let others = KeepsOthers-then old mid new file so_far.others kept in
    record {
      others = others;
      each = here;
      any_moment = LeavesOnly-step old mid new (InFile old file P) so_far.any_moment steps
          (InFile-now old new file P others here);
    }

-- a write
pub IsRun-write : {T : Type 0} (result : Result T DiskFailed) (old new : Past) (file at : ℕ)
    (bytes : List ℕ) → at ≤ length (seen old file)
    → OnOk result (new ≡ with_write old file at bytes)
    → OnErr result (TearsWrite old new file at (length bytes))
    → IsRun old new file (IsTornFrom old file at (length bytes))
IsRun-write result old new file at bytes within done torn =
    IsRun-step old old new file (IsTornFrom old file at (length bytes))
    (IsRun-start old file _ (EachHolds-none old file at (length bytes)))
    (Steps-write result old new file at bytes (length bytes) done torn)
    (KeepsOthers-write result old new file at bytes (length bytes) done torn)
    (MayHold-write result old new file at bytes within done torn)

-- a cut
pub IsRun-cut : {T : Type 0} (result : Result T DiskFailed) (old new : Past) (file size : ℕ)
    → size ≤ length (seen old file) → OnOk result (new ≡ with_cut old file size)
    → OnErr result (TearsCut old new file size) → IsRun old new file (IsCutFrom old file size)
IsRun-cut result old new file size within done torn =
    IsRun-step old old new file (IsCutFrom old file size)
    (IsRun-start old file _ (λ held is. inl is))
    (Steps-cut result old new file size done torn)
    (KeepsOthers-cut result old new file size done torn)
    (MayHold-cut result old new file size within done torn)

-- and then a sync
pub IsRun-sync : {T : Type 0} (result : Result T DiskFailed) (old mid new : Past) (file : ℕ)
    (P : List ℕ → Type 0) → IsRun old mid file P → OnOk result (new ≡ with_sync mid file)
    → OnErr result (new ≡ mid) → IsRun old new file P
IsRun-sync result old mid new file P so_far done kept =
    IsRun-step old mid new file P so_far (Steps-sync result mid new file done kept)
    (KeepsOthers-sync result mid new file done kept)
    (EachHolds-sync result mid new file P done kept so_far.each)

-- what has P has Q
pub IsRun-wider : (old new : Past) (file : ℕ) (P Q : List ℕ → Type 0)
    → ((held : List ℕ) → P held → Q held) → IsRun old new file P → IsRun old new file Q
IsRun-wider old new file P Q wider run = record {
  others = run.others;
  each = λ held is. wider held (run.each held is);
  any_moment = LeavesOnly-wider old new (InFile old file P) (InFile old file Q)
      (InFile-earlier old old file P Q (KeepsOthers-same old old file refl) wider) run.any_moment;
}

-- one run after another
pub IsRun-then : (old mid new : Past) (file : ℕ) (P : List ℕ → Type 0) → IsRun old mid file P
    → IsRun mid new file P → IsRun old new file P
IsRun-then old mid new file P first second = record {
  others = KeepsOthers-then old mid new file first.others second.others;
  each = second.each;
  any_moment = InFile-then old mid new file P P P first.others (λ held is. is) (λ held is. is)
      first.any_moment second.any_moment;
}
