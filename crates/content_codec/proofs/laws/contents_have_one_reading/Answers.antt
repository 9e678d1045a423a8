-- Since each form is read as its value.
use Rattle.content_codec.proofs.Contents.{content_reading}
use Rattle.content_codec.proofs.Fronts.{one_reading}
use Rattle.content_codec.proofs.laws.contents_have_one_reading.Goals as goal

pub returns : goal.returns
returns c = one_reading content_reading
