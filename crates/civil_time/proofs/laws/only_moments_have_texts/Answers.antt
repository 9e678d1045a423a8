use Rattle.civil_time.proofs.TextLemmas.{text_has_moment}
use Rattle.civil_time.proofs.laws.only_moments_have_texts.Goals as goal

pub returns : goal.returns
returns c = text_has_moment
