-- What is written is read.
use Rattle.json_model.proofs.ContentLemmas.{reads_back}
use Rattle.json_model.proofs.laws.content_reads_back.Goals as goal

pub returns : goal.returns
returns c = reads_back
