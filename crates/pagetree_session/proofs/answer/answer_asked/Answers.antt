-- What is asked is answered.
use Rattle.std.proofs.Common.{Ok, ap, ◌∙◌}
use Rattle.http_wire.specs.Reading.{request_of}
use Rattle.wire_model.proofs.FitLemmas.{routes_fit}
use Rattle.wire_model.proofs.FormLemmas.{routes_keep_form}
use Rattle.pagetree_session.proofs.AnswerLemmas.{answered_by_call, answered_fault}
use Rattle.pagetree_session.proofs.answer.answer_asked.Goals as goal

pub answer_call-requires-clause-fits : goal.answer_call-requires-clause-fits
answer_call-requires-clause-fits g c = λ command is.
    routes_fit (request_of c.args.request.now) command (c.in-Ok.ensures.ok ∙ ap Ok is)

pub answer_call-requires-clause-form : goal.answer_call-requires-clause-form
answer_call-requires-clause-form g c = λ command is.
    routes_keep_form (request_of c.args.request.now) command (c.in-Ok.ensures.ok ∙ ap Ok is)

pub returns-in-Ok-clause-ok : goal.returns-in-Ok-clause-ok
returns-in-Ok-clause-ok g c =
    answered_by_call _ _ _ _ (request_of c.args.request.now) c.args.now c.in-Ok.call _
    c.in-Ok.ensures.ok c.answer_call.ensures.ok

pub returns-in-Err-clause-ok : goal.returns-in-Err-clause-ok
returns-in-Err-clause-ok g c =
    answered_fault _ _ (request_of c.args.request.now) c.args.now c.in-Err.fault
    c.fault_answer.result c.in-Err.ensures.err c.fault_answer.ensures
