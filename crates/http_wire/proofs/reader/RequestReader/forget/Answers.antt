-- Nothing is remembered.
use Rattle.http_wire.proofs.ReadingLemmas.{knows_nothing}
use Rattle.http_wire.proofs.reader.RequestReader.forget.Goals as goal

pub returns : goal.returns
returns c = knows_nothing
