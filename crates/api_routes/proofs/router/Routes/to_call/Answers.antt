use Rattle.api_routes.proofs.CallLemmas.{answers-ok, answers-err, answers-memory}
use Rattle.api_routes.proofs.router.Routes.to_call.Goals as goal

pub returns-clause-ok : goal.returns-clause-ok
returns-clause-ok c = answers-ok _ _ c.answer.ensures

pub returns-clause-err : goal.returns-clause-err
returns-clause-err c = answers-err _ _ c.answer.ensures

pub returns-clause-memory : goal.returns-clause-memory
returns-clause-memory c = answers-memory _ _ c.answer.ensures
