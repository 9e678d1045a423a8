-- What goes on from the shorter is empty.
use Rattle.wire_model.proofs.TranscriptLemmas.{one_transcript}
use Rattle.wire_model.proofs.laws.one_transcript.Goals as goal

pub returns : goal.returns
returns c = one_transcript
