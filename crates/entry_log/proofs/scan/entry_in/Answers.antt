-- What is at the front of a payload, and whether it is all of it.
use Rattle.std.proofs.Common.{◌+◌, arith}
use Rattle.std.proofs.lemmas.Bool.{iff_false}
use Rattle.entry_log.proofs.ReadingLemmas.{not_any, not_whole, not_next, IsEntryIn-whole}
use Rattle.entry_log.proofs.scan.entry_in.Goals as goal

pub returns-in-Ok-None-clause-none : goal.returns-in-Ok-None-clause-none
returns-in-Ok-None-clause-none c =
    let none = rw c.in-Ok-None.field-0-is at c.in-Ok-None.ensures in
    not_any (c.args.number + 1) c.args.payload.now none

pub returns-then-size-payload-clause-none : goal.returns-then-size-payload-clause-none
returns-then-size-payload-clause-none c =
    let front = rw c.in-Ok-Some.field-0-is at c.in-Ok-Some.ensures in
    not_whole (c.args.number + 1) c.in-Ok-Some.entry c.args.payload.now c.in-Ok-Some.size front
    (omega (arith, c.if-size-payload.true))

pub returns-then-not-is_next-clause-none : goal.returns-then-not-is_next-clause-none
returns-then-not-is_next-clause-none c =
    let front = rw c.in-Ok-Some.field-0-is at c.in-Ok-Some.ensures in
    not_next (c.args.number + 1) c.in-Ok-Some.entry c.args.payload.now c.in-Ok-Some.size front
    (iff_false c.is_next.ensures c.if-not-is_next.true)

pub returns-else-not-is_next-clause-some : goal.returns-else-not-is_next-clause-some
returns-else-not-is_next-clause-some c =
    let front = rw c.in-Ok-Some.field-0-is at c.in-Ok-Some.ensures in
    IsEntryIn-whole (c.args.number + 1) c.in-Ok-Some.entry c.args.payload.now c.in-Ok-Some.size front
    (omega (arith, c.if-size-payload.false)) (c.is_next.ensures.0 c.if-not-is_next.false)
