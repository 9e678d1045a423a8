-- Lemmas about the moments since an earlier one: how a run of calls goes on.
use Rattle.std.proofs.Common.{◌≡◌, ◌⊎◌, inl, inr, ℕ, List, [], ◌∷◌, ◌++◌, Result, Ok, Err, OnOk, OnErr, refl, sym, ◌∙◌, ap, subst, append_assoc}
use Rattle.disk_model.specs.Past.{Image, Call, Past, after_calls, with_call, with_write, with_cut, with_sync}
use Rattle.disk_model.specs.Images.{EachImage, EachMoment, LeavesOnly, TearsWrite, TearsCut}
use Rattle.disk_model.specs.declared.fault.DiskFailed.{DiskFailed}

-- a past is what it was, or has one call more
abbrev pub Steps : Past → Past → Type 0
Steps old new = (new ≡ old) ⊎ ((call : Call) × (new ≡ with_call old call))

-- before the first call
pub LeavesOnly-start : (past : Past) (P : Image → Type 0) → EachImage past P
    → LeavesOnly past past P
LeavesOnly-start past P here = record { calls = []; goes_on = refl; each = here }

-- one call more
pub LeavesOnly-step : (old mid new : Past) (P : Image → Type 0) → LeavesOnly old mid P
    → Steps mid new → EachImage new P → LeavesOnly old new P
LeavesOnly-step old mid new P so_far (inl same) here =
    subst (λ p. LeavesOnly old p P) (sym same) so_far
LeavesOnly-step old mid new P so_far (inr (call, is)) here =
    let goes_on : new ≡ after_calls (call ∷ so_far.calls) old =
    is ∙ ap (λ p. with_call p call) so_far.goes_on in
    record {
      calls = call ∷ so_far.calls;
      goes_on = goes_on;
      each = (subst (λ p. EachImage p P) goes_on here, so_far.each);
    }

-- what holds of less holds of more
pub LeavesOnly-wider : (old new : Past) (P Q : Image → Type 0) → ((image : Image) → P image → Q
    image)
    → LeavesOnly old new P → LeavesOnly old new Q
LeavesOnly-wider old new P Q wider only =
    record { calls = only.calls; goes_on = only.goes_on; each = each only.calls only.each }
  where
    each : (calls : List Call) → EachMoment old calls P → EachMoment old calls Q
    each [] here = λ image is. wider image (here image is)
    each (call ∷ calls) moments =
        (λ image is. wider image (moments.0 image is), each calls moments.1)

-- one run of calls after another
pub LeavesOnly-then : (old mid new : Past) (P : Image → Type 0) → LeavesOnly old mid P
    → LeavesOnly mid new P → LeavesOnly old new P
LeavesOnly-then old mid new P first second = record {
  calls = second.calls ++ first.calls;
  goes_on = second.goes_on ∙ ap (after_calls second.calls) first.goes_on
      ∙ regrouped second.calls;
  each = each second.calls (subst (λ p. EachMoment p second.calls P) first.goes_on second.each);
}
  where
    regrouped : (calls : List Call) → after_calls calls (after_calls first.calls old)
        ≡ after_calls (calls ++ first.calls) old
    regrouped calls = ap (λ l. let p : Past = record { start = old.start; calls = l } in p)
        (sym (append_assoc calls first.calls old.calls))

    each : (calls : List Call) → EachMoment (after_calls first.calls old) calls P
        → EachMoment old (calls ++ first.calls) P
    each [] here = first.each
    each (call ∷ calls) moments = (
      subst (λ p. EachImage p P) (regrouped (call ∷ calls)) moments.0,
      each calls moments.1,
    )

-- a write is one call or none
pub Steps-write : {T : Type 0} (result : Result T DiskFailed) (old new : Past) (file at : ℕ)
    (bytes : List ℕ) (count : ℕ) → OnOk result (new ≡ with_write old file at bytes)
    → OnErr result (TearsWrite old new file at count) → Steps old new
Steps-write (Ok _) old new file at bytes count done torn = inr (_, done)
Steps-write (Err _) old new file at bytes count done (inl same) = inl same
Steps-write (Err _) old new file at bytes count done (inr (after, torn, is)) = inr (_, is)

-- a cut is one call or none
pub Steps-cut : {T : Type 0} (result : Result T DiskFailed) (old new : Past) (file size : ℕ)
    → OnOk result (new ≡ with_cut old file size) → OnErr result (TearsCut old new file size)
    → Steps old new
Steps-cut (Ok _) old new file size done torn = inr (_, done)
Steps-cut (Err _) old new file size done (inl same) = inl same
Steps-cut (Err _) old new file size done (inr (after, cut, is)) = inr (_, is)

-- a sync is one call or none
pub Steps-sync : {T : Type 0} (result : Result T DiskFailed) (old new : Past) (file : ℕ)
    → OnOk result (new ≡ with_sync old file) → OnErr result (new ≡ old) → Steps old new
Steps-sync (Ok _) old new file done kept = inr (_, done)
Steps-sync (Err _) old new file done kept = inl kept
