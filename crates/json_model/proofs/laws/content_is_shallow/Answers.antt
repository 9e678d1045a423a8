-- What is written of a content is shallow.
use Rattle.json_model.proofs.TextLemmas.{content_shallow}
use Rattle.json_model.proofs.laws.content_is_shallow.Goals as goal

pub returns : goal.returns
returns c = content_shallow
