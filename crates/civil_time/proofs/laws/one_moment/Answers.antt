use Rattle.civil_time.proofs.TextLemmas.{text_has_one_moment}
use Rattle.civil_time.proofs.laws.one_moment.Goals as goal

pub returns : goal.returns
returns c = text_has_one_moment
