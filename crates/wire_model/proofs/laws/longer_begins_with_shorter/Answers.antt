-- Each request and each answer is determined.
use Rattle.wire_model.proofs.TranscriptLemmas.{longer_begins_with_shorter}
use Rattle.wire_model.proofs.laws.longer_begins_with_shorter.Goals as goal

pub returns : goal.returns
returns c = longer_begins_with_shorter
