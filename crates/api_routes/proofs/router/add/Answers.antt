use Rattle.api_routes.proofs.RouteLemmas.{inserted}
use Rattle.api_routes.proofs.router.add.Goals as goal

pub returns : goal.returns
returns c = inserted _ _ _ _ c.in-Ok.ensures
