-- The page in the middle decides which half is left.
use Rattle.std.proofs.Common.{◌≡◌, ◌<◌, ◌≤◌, ◌+◌, ◌-◌, ◌/◌, ℕ, Bool, true, false, List, length, get_or, ◌∙◌, sym, arith}
use Rattle.step_path.specs.Path.{steps_of}
use Rattle.page_store.specs.Search.{leading, is_front, PassFirst}
use Rattle.page_store.proofs.Leading.{leading-le-length, leading-le_from_fail, lt-leading_from_pass}
use Rattle.page_store.proofs.search.count_front.Goals as goal

-- an element that was read and passes is one of those in front
passes : {X : Type 0} (test : X → Bool) (xs : List X) (i : ℕ) (x : X) → PassFirst test xs →
    i < length xs → x ≡ get_or xs i x → test x ≡ true → i < leading test xs
passes test xs i x first within is h = lt-leading_from_pass test xs i x first within (rw (← is) h)

-- one that was read and does not pass is not
fails : {X : Type 0} (test : X → Bool) (xs : List X) (i : ℕ) (x : X) → i < length xs →
    x ≡ get_or xs i x → test x ≡ false → leading test xs ≤ i
fails test xs i x within is h = leading-le_from_fail test xs i x within (rw (← is) h)

pub loop-low-init : goal.loop-low-init
loop-low-init c =
    let test = is_front c.args.front (steps_of c.args.path.now) c.args.stored.now.entries in
    record { above = omega arith; below = leading-le-length test c.args.order.now; within = omega arith }

pub loop-low-preserved-then-is_in_front : goal.loop-low-preserved-then-is_in_front
loop-low-preserved-then-is_in_front c =
    let test = is_front c.args.front (steps_of c.args.path.now) c.args.stored.now.entries in
    let middle = c.loop-low.low + (c.loop-low.high - c.loop-low.low) / 2 in
    let within : middle < length c.args.order.now = omega arith in
    let here = passes test c.args.order.now middle _ c.requires.first within c.index-order-middle.is
    (sym c.is_in_front.ensures ∙ c.if-is_in_front.true) in
    record { above = omega arith; below = c.loop-low.invariant.below; within = c.loop-low.invariant.within }

pub loop-low-preserved : goal.loop-low-preserved
loop-low-preserved c =
    let test = is_front c.args.front (steps_of c.args.path.now) c.args.stored.now.entries in
    let middle = c.loop-low.low + (c.loop-low.high - c.loop-low.low) / 2 in
    let within : middle < length c.args.order.now = omega arith in
    let here = fails test c.args.order.now middle _ within c.index-order-middle.is (sym
    c.is_in_front.ensures ∙ c.if-is_in_front.false) in
    record { above = c.loop-low.invariant.above; below = here; within = omega arith }
