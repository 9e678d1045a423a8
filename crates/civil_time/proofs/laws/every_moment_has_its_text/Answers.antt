use Rattle.civil_time.proofs.TextLemmas.{moment_has_text}
use Rattle.civil_time.proofs.laws.every_moment_has_its_text.Goals as goal

pub returns : goal.returns
returns c = moment_has_text
