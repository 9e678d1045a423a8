use Rattle.civil_time.proofs.ByteLemmas.{text_is_plain}
use Rattle.civil_time.proofs.laws.plain_bytes.Goals as goal

pub returns : goal.returns
returns c = text_is_plain
