-- What is written of a content has no float.
use Rattle.json_model.proofs.TextLemmas.{content_plain}
use Rattle.json_model.proofs.laws.content_has_no_float.Goals as goal

pub returns : goal.returns
returns c = content_plain
