-- Lemmas about specs/Sink.antt.
use Rattle.std.proofs.Common.{◌≡◌, ℕ, ◌+◌, ◌-◌, ◌≤◌, List, [], ◌++◌, Option, Some, None, length, take, drop, refl, sym, ap, ◌∙◌, append_assoc, append-nil, arith, length-take, length-drop}
use Rattle.std.proofs.lemmas.List.{take_rest}
use Rattle.std.proofs.Math.Seq.{take-add}
use Rattle.outside_world.specs.Sink.{with_back, AppendsPart}

-- no bytes behind change nothing
pub with_back-nil : (taken : Option (List ℕ)) → with_back taken [] ≡ taken
with_back-nil None = refl
with_back-nil (Some bytes) = ap Some (append-nil bytes)

-- pieces one behind the other are one piece
pub with_back-with_back : (taken : Option (List ℕ)) (first second : List ℕ)
    → with_back (with_back taken first) second ≡ with_back taken (first ++ second)
with_back-with_back None first second = refl
with_back-with_back (Some bytes) first second = ap Some (append_assoc bytes first second)

-- the first bytes of a piece, and then the first of what is behind them
pub with_back_more : (before then after : Option (List ℕ)) (piece : List ℕ) (w n : ℕ)
    → then ≡ with_back before (take w piece)
    → after ≡ with_back then (take n (take (length piece - w) (drop w piece)))
    → after ≡ with_back before (take (w + n) piece)
with_back_more before then after piece w n first second =
    let rest : take n (take (length piece - w) (drop w piece)) ≡ take n (drop w piece) =
    ap (take n) (take_rest piece w) in
    let joined : take w piece ++ take n (take (length piece - w) (drop w piece))
    ≡ take (w + n) piece =
    ap (λ back. take w piece ++ back) rest ∙ sym (take-add w n piece) in
    second ∙ ap (λ t. with_back t (take n (take (length piece - w) (drop w piece)))) first
    ∙ with_back-with_back before _ _ ∙ ap (with_back before) joined

-- the first bytes of a piece, and then a first part of what is behind them
pub AppendsPart_more : (before then after : Option (List ℕ)) (piece : List ℕ) (w : ℕ)
    → w ≤ length piece → then ≡ with_back before (take w piece)
    → AppendsPart then after (take (length piece - w) (drop w piece))
    → AppendsPart before after piece
AppendsPart_more before then after piece w fits first part = record {
  count = w + part.count;
  within =
      let within = part.within in
      omega (arith, length-take {A = ℕ}, length-drop {A = ℕ});
  appended = with_back_more before then after piece w part.count first part.appended;
}

-- nothing was appended, whatever the piece
pub AppendsPart-same : (taken : Option (List ℕ)) (piece : List ℕ) → AppendsPart taken taken piece
AppendsPart-same taken piece =
    record { count = 0; within = omega arith; appended = sym (with_back-nil taken) }
