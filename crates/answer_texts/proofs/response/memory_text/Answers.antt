-- The texts are computed.
use Rattle.answer_texts.proofs.MemoryText.{going_on, ending}
use Rattle.answer_texts.proofs.response.memory_text.Goals as goal

pub returns-then-last : goal.returns-then-last
returns-then-last c = rw (c.if-last.true) ending

pub returns-else-last : goal.returns-else-last
returns-else-last c = rw (c.if-last.false) going_on
