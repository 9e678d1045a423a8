-- Each form stands in the table of routes.
use Rattle.wire_model.proofs.RoutedLemmas.{form_routed}
use Rattle.wire_model.proofs.laws.each_form_has_a_route.Goals as goal

pub returns : goal.returns
returns c = form_routed
