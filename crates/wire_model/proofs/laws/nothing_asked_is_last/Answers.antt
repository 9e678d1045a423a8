-- No request goes on from there.
use Rattle.wire_model.proofs.TranscriptLemmas.{nothing_asked_is_last}
use Rattle.wire_model.proofs.laws.nothing_asked_is_last.Goals as goal

pub returns : goal.returns
returns c = nothing_asked_is_last
