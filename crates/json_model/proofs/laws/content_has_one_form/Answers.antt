-- What is read is what is written.
use Rattle.json_model.proofs.ContentLemmas.{content_right}
use Rattle.json_model.proofs.laws.content_has_one_form.Goals as goal

pub returns : goal.returns
returns c = λ value content e. (content_right value content e).0
