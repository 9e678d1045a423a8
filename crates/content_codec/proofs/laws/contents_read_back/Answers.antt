-- Each form is read as its value.
use Rattle.content_codec.proofs.Contents.{content_reading}
use Rattle.content_codec.proofs.laws.contents_read_back.Goals as goal

pub returns : goal.returns
returns c = content_reading.again
