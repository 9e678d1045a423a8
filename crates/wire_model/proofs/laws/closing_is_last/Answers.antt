-- Nothing follows a request that asks for closing.
use Rattle.wire_model.proofs.TranscriptLemmas.{closing_is_last}
use Rattle.wire_model.proofs.laws.closing_is_last.Goals as goal

pub returns : goal.returns
returns c = closing_is_last
