-- Each member of a body is read by the test of what it gives.
use Rattle.wire_model.proofs.FormLemmas.{routes_keep_form}
use Rattle.wire_model.proofs.laws.routes_keep_form.Goals as goal

pub returns : goal.returns
returns c = routes_keep_form
