-- Lemmas about runs of calls on one file: what each keeps of the others, and what it leaves.
use Rattle.std.proofs.Common.{◌≡◌, inl, inr, ℕ, List, Result, Ok, Err, OnOk, OnErr, refl, sym, ◌∙◌, ap, subst}
use Rattle.disk_model.specs.declared.fault.DiskFailed.{DiskFailed}
use Rattle.disk_model.specs.Past.{Image, Call, Past, seen, with_call, with_write, with_cut, with_sync}
use Rattle.disk_model.specs.Images.{MayHold, EachHolds, EachImage, LeavesOnly, TearsWrite, TearsCut}
use Rattle.disk_model.specs.OneFile.{KeepsOthers, InFile, IsTornFrom}
use Rattle.disk_model.proofs.PastLemmas.{seen-with_call_other}
use Rattle.disk_model.proofs.TornLemmas.{Torn-none}
use Rattle.disk_model.proofs.ImageLemmas.{MayHold-with_call_other, MayHold-sync, seen_may_be_held}
use Rattle.disk_model.proofs.MomentLemmas.{LeavesOnly-start, LeavesOnly-wider, LeavesOnly-then}

-- nothing was done
pub KeepsOthers-same : (old new : Past) (file : ℕ) → new ≡ old → KeepsOthers old new file
KeepsOthers-same old new file same other differs =
    (ap (λ p. seen p other) same, λ held. subst (λ p. MayHold p other held) same)

-- one call on the file
pub KeepsOthers-call : (old new : Past) (call : Call) → new ≡ with_call old call
    → KeepsOthers old new call.file
KeepsOthers-call old new call is other differs = (
  ap (λ p. seen p other) is ∙ seen-with_call_other old call other differs,
  λ held new_held. MayHold-with_call_other old call other held differs
      (subst (λ p. MayHold p other held) is new_held),
)

-- one run after another
pub KeepsOthers-then : (old mid new : Past) (file : ℕ) → KeepsOthers old mid file
    → KeepsOthers mid new file → KeepsOthers old new file
KeepsOthers-then old mid new file first second other differs =
    let before = first other differs in
    let after = second other differs in
    (after.0 ∙ before.0, λ held new_held. before.1 held (after.1 held new_held))

-- a write
pub KeepsOthers-write : {T : Type 0} (result : Result T DiskFailed) (old new : Past)
    (file at : ℕ) (bytes : List ℕ) (count : ℕ) → OnOk result (new ≡ with_write old file at bytes)
    → OnErr result (TearsWrite old new file at count) → KeepsOthers old new file
KeepsOthers-write (Ok _) old new file at bytes count done torn = KeepsOthers-call old new _ done
KeepsOthers-write (Err _) old new file at bytes count done (inl same) =
    KeepsOthers-same old new file same
KeepsOthers-write (Err _) old new file at bytes count done (inr (after, torn, is)) =
    KeepsOthers-call old new _ is

-- a cut
pub KeepsOthers-cut : {T : Type 0} (result : Result T DiskFailed) (old new : Past)
    (file size : ℕ) → OnOk result (new ≡ with_cut old file size)
    → OnErr result (TearsCut old new file size) → KeepsOthers old new file
KeepsOthers-cut (Ok _) old new file size done torn = KeepsOthers-call old new _ done
KeepsOthers-cut (Err _) old new file size done (inl same) = KeepsOthers-same old new file same
KeepsOthers-cut (Err _) old new file size done (inr (after, cut, is)) =
    KeepsOthers-call old new _ is

-- a sync
pub KeepsOthers-sync : {T : Type 0} (result : Result T DiskFailed) (old new : Past) (file : ℕ)
    → OnOk result (new ≡ with_sync old file) → OnErr result (new ≡ old)
    → KeepsOthers old new file
KeepsOthers-sync (Ok _) old new file done kept = KeepsOthers-call old new _ done
KeepsOthers-sync (Err _) old new file done kept = KeepsOthers-same old new file kept

-- a sync leaves of its file only what might be left before
pub EachHolds-sync : {T : Type 0} (result : Result T DiskFailed) (old new : Past) (file : ℕ)
    (P : List ℕ → Type 0) → OnOk result (new ≡ with_sync old file)
    → OnErr result (new ≡ old) → EachHolds old file P → EachHolds new file P
EachHolds-sync (Ok _) old new file P done kept before held new_held =
    subst P (sym (MayHold-sync old new file done held new_held))
    (before (seen old file) (seen_may_be_held old file))
EachHolds-sync (Err _) old new file P done kept before held new_held =
    before held (subst (λ p. MayHold p file held) kept new_held)

-- what a crash leaves now, if the others are as they were
pub InFile-now : (old new : Past) (file : ℕ) (P : List ℕ → Type 0) → KeepsOthers old new file
    → EachHolds new file P → EachImage new (InFile old file P)
InFile-now old new file P others own image is = record {
  own = own (image file) (is file);
  others = λ other differs. (others other differs).1 (image other) (is other);
}

-- before the first call
pub InFile-start : (past : Past) (file : ℕ) (P : List ℕ → Type 0) → EachHolds past file P
    → LeavesOnly past past (InFile past file P)
InFile-start past file P here =
    LeavesOnly-start past (InFile past file P) (InFile-now past past file P
    (KeepsOthers-same past past file refl) here)

-- what stands before a write is a write done in part
pub EachHolds-none : (past : Past) (file at count : ℕ)
    → EachHolds past file (IsTornFrom past file at count)
EachHolds-none past file at count held is = (held, is, Torn-none at count held)

-- a run of calls on a file, as a run that began earlier sees it
pub InFile-earlier : (old mid : Past) (file : ℕ) (P Q : List ℕ → Type 0)
    → KeepsOthers old mid file → ((held : List ℕ) → P held → Q held)
    → (image : Image) → InFile mid file P image → InFile old file Q image
InFile-earlier old mid file P Q others wider image in_file = record {
  own = wider (image file) in_file.own;
  others = λ other differs. (others other differs).1 (image other) (in_file.others other differs);
}

-- one run on a file after another
pub InFile-then : (old mid new : Past) (file : ℕ) (P Q R : List ℕ → Type 0)
    → KeepsOthers old mid file → ((held : List ℕ) → P held → R held)
    → ((held : List ℕ) → Q held → R held) → LeavesOnly old mid (InFile old file P)
    → LeavesOnly mid new (InFile mid file Q) → LeavesOnly old new (InFile old file R)
InFile-then old mid new file P Q R others first_wider second_wider first second =
    LeavesOnly-then old mid new (InFile old file R)
    (LeavesOnly-wider old mid (InFile old file P) (InFile old file R)
    (InFile-earlier old old file P R (KeepsOthers-same old old file refl) first_wider) first)
    (LeavesOnly-wider mid new (InFile mid file Q) (InFile old file R)
    (InFile-earlier old mid file Q R others second_wider) second)
