-- The digits of a moment's text write its civil second.
use Rattle.wire_model.proofs.TimeLemmas.{times_are_texts}
use Rattle.wire_model.proofs.laws.times_are_texts.Goals as goal

pub returns : goal.returns
returns c = times_are_texts
