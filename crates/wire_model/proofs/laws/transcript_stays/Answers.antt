-- What is whole stays so.
use Rattle.wire_model.proofs.TranscriptLemmas.{transcript_stays}
use Rattle.wire_model.proofs.laws.transcript_stays.Goals as goal

pub returns : goal.returns
returns c = transcript_stays
