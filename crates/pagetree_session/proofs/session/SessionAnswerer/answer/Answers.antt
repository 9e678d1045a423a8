-- A store that answered a request may be asked more.
use Rattle.http_wire.specs.Reading.{request_of}
use Rattle.pagetree_session.proofs.SessionLemmas.{may_go_on}
use Rattle.pagetree_session.proofs.session.SessionAnswerer.answer.Goals as goal

pub returns-clause-may : goal.returns-clause-may
returns-clause-may g c = λ more may.
    may_go_on _ _ _ _ (request_of c.args.request.now) c.args.now c.answer_request.result may
    c.answer_request.ensures.ok
