-- What is read keeps the limits.
use Rattle.json_model.proofs.ContentLemmas.{content_right}
use Rattle.json_model.proofs.laws.content_keeps_limits.Goals as goal

pub returns : goal.returns
returns c =
    λ value content e.
    let right = content_right value content e in (right.1, right.2)
