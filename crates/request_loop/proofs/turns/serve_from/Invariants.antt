-- What stands at each turn, and what falls with it.
use Rattle.std.proofs.Common.{◌≤◌, ◌<◌, ◌+◌, ◌-◌, ◌*◌, length}
use Rattle.http_wire.specs.Reading.{Knows}
use Rattle.request_loop.specs.declared.input_buffer.TheConstants.{ROOM}
use Rattle.request_loop.proofs.SoFarLemmas.{SoFar}
use Rattle.request_loop.proofs.turns.serve_from.Given as goal

abbrev pub invariant-turns : goal.invariant-turns
invariant-turns g l = record {
  so : SoFar g.A.Answerer.answers l.limit l.fn.answerer l.answerer l.buffer l.answered
      (g.S.Source.left l.fn.source) (g.S.Source.left l.source)
      (g.K.Sink.taken l.fn.sink) (g.K.Sink.taken l.sink) (g.C.Clock.coming l.fn.clock)
      (g.C.Clock.coming l.clock);
  knows : Knows l.reader l.buffer;
  few : l.answered < l.limit;
  may : g.A.Answerer.may_answer l.answerer (l.limit - l.answered);
  fits : length l.buffer ≤ ROOM;
  source_later : g.S.Source.faults l.fn.source ≤ g.S.Source.faults l.source;
  sink_later : g.K.Sink.faults l.fn.sink ≤ g.K.Sink.faults l.sink;
}

abbrev pub decreases-turns : goal.decreases-turns
decreases-turns g l = (l.limit - l.answered) * (ROOM + 1) + (ROOM - length l.buffer)
