-- The moment, the answer and the response.
use Rattle.http_wire.specs.Reading.{request_of}
use Rattle.request_loop.proofs.ExchangeLemmas.{exchanges_by}
use Rattle.request_loop.proofs.exchange.exchange.Goals as goal

pub returns-clause-exchanged : goal.returns-clause-exchanged
returns-clause-exchanged g c =
    exchanges_by g.A.Answerer.answers g.A.Answerer.gives_up
    (g.C.Clock.coming c.args.clock.now 0) (request_of c.args.request.now) c.args.last
    c.args.answerer.now c.answer.new.self (g.K.Sink.taken c.args.sink.now)
    (g.K.Sink.taken c.respond.new.sink) c.respond.result (record {
      moment = c.in-Some.now;
      answer = c.in-Ok.answer;
      moment_is = rw c.in-Some.ensures.1 c.now.ensures.first;
      in_range = rw c.in-Some.ensures.1 c.now.ensures.in_range;
      answered = c.in-Ok.ensures.answered;
    }) c.respond.ensures.responded
