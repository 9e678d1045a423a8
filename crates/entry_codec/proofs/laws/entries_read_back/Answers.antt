-- Each form is read as its value.
use Rattle.entry_codec.proofs.Entries.{entry_reading}
use Rattle.entry_codec.proofs.laws.entries_read_back.Goals as goal

pub returns : goal.returns
returns c = entry_reading.again
