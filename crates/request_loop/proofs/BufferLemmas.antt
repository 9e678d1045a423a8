-- The bytes that stand from one place of a room to another: more behind them, and fewer.
use Rattle.std.proofs.Common.{◌≡◌, ◌≤◌, ◌+◌, ◌-◌, ℕ, List, ◌++◌, length, take, drop, Option, sym, ap, ◌∙◌, arith, length-take}
use Rattle.std.proofs.lemmas.List.{drop-take, drop-drop, drop-append-le}
use Rattle.std.proofs.Math.Seq.{take-add}
use Rattle.outside_world.specs.Source.{with_front}
use Rattle.request_loop.specs.Holding.{held_in}
use Rattle.outside_world.proofs.SourceLemmas.{with_front-with_front}

-- they are the front up to the second place, without what is in front of the first
pub held_in-front : (room : List ℕ) (from to : ℕ) → from ≤ to →
    held_in room from to ≡ drop from (take to room)
held_in-front room from to h =
    let n : from + (to - from) ≡ to = omega arith in
    sym (rw n at (drop-take from (to - from) room))

-- what stands behind the second place does not matter
pub held_in-same : (old new : List ℕ) (from to : ℕ) → from ≤ to → take to new ≡ take to old →
    held_in new from to ≡ held_in old from to
held_in-same old new from to h same =
    held_in-front new from to h ∙ (ap (λ xs. drop from xs) same ∙ sym (held_in-front old from to h))

-- n bytes more behind the second place
pub held_in-more : (room : List ℕ) (from to n : ℕ) → from ≤ to → to ≤ length room →
    held_in room from (to + n) ≡ held_in room from to ++ take n (drop to room)
held_in-more room from to n h within =
    let front = held_in-front room from (to + n) (omega arith) in
    let parts : take (to + n) room ≡ take to room ++ take n (drop to room) = take-add to n room in
    let long : from ≤ length (take to room) = let l = length-take to room in omega arith in
    front ∙ (ap (λ xs. drop from xs) parts ∙ (drop-append-le from (take to room) (take n (drop to
    room)) long ∙ ap (λ xs. xs ++ take n (drop to room)) (sym (held_in-front room from to h))))

-- n bytes fewer in front
pub held_in-fewer : (room : List ℕ) (from to n : ℕ) → from + n ≤ to →
    held_in room (from + n) to ≡ drop n (held_in room from to)
held_in-fewer room from to n h =
    held_in-front room (from + n) to h ∙ (sym (drop-drop n from (take to room)) ∙ ap (λ xs. drop n
    xs) (sym (held_in-front room from to (omega arith))))

-- Bytes that are read behind the held ones are held, and left no more: nothing is lost or made.
pub read_more : (held : List ℕ) (room new : List ℕ) (from to n : ℕ) (before after : Option (List ℕ))
    → held_in room from to ≡ held → from ≤ to → to ≤ length new → take to new ≡ take to room →
    before ≡ with_front (take n (drop to new)) after →
    with_front held before ≡ with_front (held_in new from (to + n)) after
read_more held room new from to n before after is order within same moved =
    let kept = held_in-same room new from to order same ∙ is in
    let more = held_in-more new from to n order within in
    ap (with_front held) moved ∙ (with_front-with_front held (take n (drop to new)) after ∙ ap (λ
    xs. with_front xs after) (sym (more ∙ ap (λ xs. xs ++ take n (drop to new)) kept)))

-- where no byte was read, the held ones are the same
pub read_none : (held room new : List ℕ) (from to n : ℕ) → n ≡ 0 → held_in room from to ≡ held →
    from ≤ to → take to new ≡ take to room → held_in new from (to + n) ≡ held
read_none held room new from to n none is order same =
    let here : to + n ≡ to = omega arith in
    rw here (held_in-same room new from to order same ∙ is)
