-- Each member of a body is read by the test of what it gives.
use Rattle.wire_model.proofs.FitLemmas.{routes_fit}
use Rattle.wire_model.proofs.laws.routes_fit.Goals as goal

pub returns : goal.returns
returns c = routes_fit
