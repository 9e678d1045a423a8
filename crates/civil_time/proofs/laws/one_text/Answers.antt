use Rattle.civil_time.proofs.TextLemmas.{moment_has_one_text}
use Rattle.civil_time.proofs.laws.one_text.Goals as goal

pub returns : goal.returns
returns c = moment_has_one_text
