-- Lemmas about specs/Memory.antt and the rooms that its sources fill.
use Rattle.std.proofs.Common.{◌≡◌, ℕ, ◌≤◌, List, ◌++◌, Result, Ok, Err, IfOk, length, take, drop, min, sym, ap, ◌∙◌, append_assoc, arith, length-take}
use Rattle.std.proofs.lemmas.List.{take-append-drop, drop-append-le}

-- what is behind the first n of a part of the room, and then what is behind the part
pub drop-take-append-drop : (room : List ℕ) (count n : ℕ) → count ≤ length room → n ≤ count
    → drop n (take count room) ++ drop count room ≡ drop n room
drop-take-append-drop room count n fits within =
    sym (drop-append-le n (take count room) (drop count room) (omega (arith, length-take {A = ℕ})))
    ∙ ap (drop n) (take-append-drop count room)

-- a read into the first places of a room is a read into the room
pub moved_within : {E : Type 0} → (r : Result ℕ E) (seen left inner room : List ℕ) (count : ℕ)
    → count ≤ length room → left ≡ seen
    → IfOk r (λ n. n ≡ min (length left) (length (take count room)))
    → IfOk r (λ n. inner ≡ take n left ++ drop n (take count room))
    → IfOk r (λ n. inner ++ drop count room ≡ take n seen ++ drop n room)
moved_within (Ok n) seen left inner room count fits same moves moved =
    ap (λ part. part ++ drop count room) moved
    ∙ append_assoc (take n left) (drop n (take count room)) (drop count room)
    ∙ ap (λ rest. take n left ++ rest)
    (drop-take-append-drop room count n fits (omega (arith, length-take {A = ℕ})))
    ∙ ap (λ bytes. take n bytes ++ drop n room) same
moved_within (Err e) seen left inner room count fits same moves moved = tt
