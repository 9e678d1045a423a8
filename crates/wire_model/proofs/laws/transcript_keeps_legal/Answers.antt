-- Each request adds what may stand.
use Rattle.wire_model.proofs.TranscriptLemmas.{transcript_keeps_legal}
use Rattle.wire_model.proofs.laws.transcript_keeps_legal.Goals as goal

pub returns : goal.returns
returns c = transcript_keeps_legal
