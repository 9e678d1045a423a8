use Rattle.civil_time.proofs.ByteLemmas.{text_has_twenty_bytes}
use Rattle.civil_time.proofs.laws.twenty_bytes.Goals as goal

pub returns : goal.returns
returns c = text_has_twenty_bytes
