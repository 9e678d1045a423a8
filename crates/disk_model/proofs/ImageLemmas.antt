-- Lemmas about specs/Images.antt: what a crash may leave after one call more, by what it might
-- leave before it.
use Rattle.std.proofs.Common.{◌∙◌, ◌≡◌, ◌≢◌, ◌⊎◌, inl, inr, ℕ, ◌≤◌, Bool, true, false, MatchBool, cond, eqb, List, [], ◌∷◌, length, take, Result, Ok, Err, OnOk, OnErr, refl, sym, subst, arith}
use Rattle.std.proofs.lemmas.Bool.Decides.{nat_tests}
use Rattle.disk_model.specs.Past.{Image, Call, Past, did_write, did_cut, did_sync, seen_after, seen, written, with_call, with_write, with_cut, with_sync}
use Rattle.disk_model.specs.Images.{Torn, Shortened, LeavesPart, MayHoldAfter, MayHold, EachHolds, TearsWrite, TearsCut}
use Rattle.disk_model.specs.declared.fault.DiskFailed.{DiskFailed}
use Rattle.disk_model.proofs.TornLemmas.{Torn-none, Torn-all, Shortened-all}

-- a test that is passed, or not, decides which of two facts is meant
MatchBool-true : (b : Bool) (P Q : Type 0) → b ≡ true → MatchBool b P Q → P
MatchBool-true b P Q is fact = subst (λ v. MatchBool v P Q) is fact

-- a test that fails leaves the second fact
MatchBool-false : (b : Bool) (P Q : Type 0) → b ≡ false → MatchBool b P Q → Q
MatchBool-false b P Q is fact = subst (λ v. MatchBool v P Q) is fact

-- a file has its own number
same_file : (file : ℕ) → eqb file file ≡ true
same_file file = grind (arith, nat_tests)

-- another file has another number
other_file : (file other : ℕ) → file ≢ other → eqb other file ≡ false
other_file file other differs = grind (arith, nat_tests)

-- of its own file
pub MayHold-with_call : (past : Past) (call : Call) (bytes : List ℕ)
    → MayHold (with_call past call) call.file bytes
    → (bytes ≡ call.after) ⊎ LeavesPart call.deed (MayHold past call.file) bytes
unfolding MayHoldAfter
MayHold-with_call past call bytes held = MatchBool-true _ _ _ (same_file call.file) held

-- of another
pub MayHold-with_call_other : (past : Past) (call : Call) (file : ℕ) (bytes : List ℕ)
    → file ≢ call.file → MayHold (with_call past call) file bytes → MayHold past file bytes
unfolding MayHoldAfter
MayHold-with_call_other past call file bytes other held =
    MatchBool-false _ _ _ (other_file file call.file other) held

-- a file as a test gives it is one of its images
held_by_test : (b : Bool) (start : Image) (call : Call) (calls : List Call) (file : ℕ)
    → MayHoldAfter start calls file (seen_after start calls file) → MatchBool b
    ((cond b call.after (seen_after start calls file) ≡ call.after)
    ⊎ LeavesPart call.deed (MayHoldAfter start calls file)
    (cond b call.after (seen_after start calls file)))
    (MayHoldAfter start calls file (cond b call.after (seen_after start calls file)))
held_by_test true start call calls file before = inl refl
held_by_test false start call calls file before = before

-- what a read gives may be held after a crash
seen_may_be_held_after : (start : Image) (calls : List Call) (file : ℕ)
    → MayHoldAfter start calls file (seen_after start calls file)
unfolding MayHoldAfter seen_after
seen_may_be_held_after start [] file = refl
seen_may_be_held_after start (call ∷ calls) file =
    held_by_test (eqb call.file file) start call calls file
    (seen_may_be_held_after start calls file)

-- a disk as it reads is one of its images
pub seen_may_be_held : (past : Past) (file : ℕ) → MayHold past file (seen past file)
seen_may_be_held past file = seen_may_be_held_after past.start past.calls file

-- What a write that failed leaves of its file.
MayHold-torn_write : (old new : Past) (file at count : ℕ) → TearsWrite old new file at count
    → (held : List ℕ) → MayHold new file held
    → (was : List ℕ) × MayHold old file was × Torn at count was held
MayHold-torn_write old new file at count (inl same) held new_held =
    (held, subst (λ p. MayHold p file held) same new_held, Torn-none at count held)
MayHold-torn_write old new file at count (inr (after, torn, is)) held new_held = elim
    (MayHold-with_call
    old (record { file = file; deed = did_write at count; after = after })
    held (subst (λ p. MayHold p file held) is new_held)) [
      | inl all ↦ (
        seen old file,
        seen_may_be_held old file,
        subst (λ l. Torn at count (seen old file) l) (sym all) torn,
      )
      | inr part ↦ part
    ]

-- What a write leaves, done or not: of its file what was left before, torn.
pub MayHold-write : {T : Type 0} (result : Result T DiskFailed) (old new : Past) (file at : ℕ)
    (bytes : List ℕ) → at ≤ length (seen old file)
    → OnOk result (new ≡ with_write old file at bytes)
    → OnErr result (TearsWrite old new file at (length bytes))
    → (held : List ℕ) → MayHold new file held
    → (was : List ℕ) × MayHold old file was × Torn at (length bytes) was held
MayHold-write (Ok _) old new file at bytes within done torn held new_held = elim (MayHold-with_call
    old (record {
      file = file;
      deed = did_write at (length bytes);
      after = written (seen old file)
          at bytes;
    })
    held (subst (λ p. MayHold p file held) done new_held)) [
      | inl all ↦ (
        seen old file,
        seen_may_be_held old file,
        subst (λ l. Torn at (length bytes) (seen old file) l) (sym all)
            (Torn-all at bytes (seen old file) within),
      )
      | inr part ↦ part
    ]
MayHold-write (Err _) old new file at bytes within done torn held new_held =
    MayHold-torn_write old new file at (length bytes) torn held new_held

-- What a cut that failed leaves of its file.
MayHold-torn_cut : (old new : Past) (file size : ℕ) → size ≤ length (seen old file)
    → TearsCut old new file size → (held : List ℕ) → MayHold new file held
    → MayHold old file held
    ⊎ ((was : List ℕ) × MayHold old file was × Shortened size was held)
MayHold-torn_cut old new file size within (inl same) held new_held =
    inl (subst (λ p. MayHold p file held) same new_held)
MayHold-torn_cut old new file size within (inr (after, cut, is)) held new_held = elim
    (MayHold-with_call
    old (record { file = file; deed = did_cut size; after = after })
    held (subst (λ p. MayHold p file held) is new_held)) [
      | inl all ↦ inr (
        seen old file,
        seen_may_be_held old file,
        subst (λ l. Shortened size (seen old file) l) (sym all) cut,
      )
      | inr part ↦ inr part
    ]

-- What a cut leaves, done or not: of its file what was left before, whole or shortened.
pub MayHold-cut : {T : Type 0} (result : Result T DiskFailed) (old new : Past) (file size : ℕ)
    → size ≤ length (seen old file)
    → OnOk result (new ≡ with_cut old file size)
    → OnErr result (TearsCut old new file size)
    → (held : List ℕ) → MayHold new file held
    → MayHold old file held
    ⊎ ((was : List ℕ) × MayHold old file was × Shortened size was held)
MayHold-cut (Ok _) old new file size within done torn held new_held = elim (MayHold-with_call
    old (record { file = file; deed = did_cut size; after = take size (seen old file) })
    held (subst (λ p. MayHold p file held) done new_held)) [
      | inl all ↦ inr (
        seen old file,
        seen_may_be_held old file,
        subst (λ l. Shortened size (seen old file) l) (sym all)
            (Shortened-all size (seen old file) within),
      )
      | inr part ↦ inr part
    ]
MayHold-cut (Err _) old new file size within done torn held new_held =
    MayHold-torn_cut old new file size within torn held new_held

-- After a sync a crash leaves of its file what a read gives.
pub MayHold-sync : (old new : Past) (file : ℕ) → new ≡ with_sync old file
    → (held : List ℕ) → MayHold new file held → held ≡ seen old file
MayHold-sync old new file is held new_held = elim (MayHold-with_call
    old (record { file = file; deed = did_sync; after = seen old file })
    held (subst (λ p. MayHold p file held) is new_held)) [
      | inl all ↦ all
      | inr none ↦ absurd none
    ]

-- After a sync that is done, of its file what a read gave before.
pub EachHolds-synced : {T : Type 0} (result : Result T DiskFailed) (old new : Past) (file : ℕ)
    (bytes : List ℕ) → seen old file ≡ bytes → OnOk result (new ≡ with_sync old file)
    → OnOk result (EachHolds new file (λ held. held ≡ bytes))
EachHolds-synced (Ok _) old new file bytes is done =
    λ held new_held. MayHold-sync old new file done held new_held ∙ is
EachHolds-synced (Err _) old new file bytes is done = tt
