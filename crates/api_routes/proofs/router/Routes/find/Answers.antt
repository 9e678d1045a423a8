use Rattle.api_routes.proofs.RouteLemmas.{found-leads, missing-beside}
use Rattle.api_routes.proofs.router.Routes.find.Goals as goal

pub returns-in-Ok : goal.returns-in-Ok
returns-in-Ok c = found-leads c.args.path.now _ (rw c.self.invariant at c.in-Ok.ensures.found)

pub returns-in-Err : goal.returns-in-Err
returns-in-Err c = missing-beside c.args.path.now (rw c.self.invariant at c.in-Err.ensures.missing)
