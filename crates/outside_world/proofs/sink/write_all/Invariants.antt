use Rattle.std.proofs.Common.{length, ◌-◌, ◌≡◌, ◌≤◌, take}
use Rattle.outside_world.specs.Sink.{with_back}
use Rattle.outside_world.proofs.sink.write_all.Given as goal

-- what was written so far was appended, and the count did not fall
abbrev pub invariant-loop-written : goal.invariant-loop-written
invariant-loop-written g l = record {
  within : l.written ≤ length l.piece;
  appended : g.K.Sink.taken l.sink
      ≡ with_back (g.K.Sink.taken l.initial.sink) (take l.written l.piece);
  later : g.K.Sink.faults l.initial.sink ≤ g.K.Sink.faults l.sink;
}

-- the bytes that are still to be written
abbrev pub decreases-loop-written : goal.decreases-loop-written
decreases-loop-written g l = length l.piece - l.written
