-- Each command keeps what it touches sound, and the desks that are lost end.
use Rattle.site_model.proofs.WorldSound.{step_keeps_sound}
use Rattle.site_model.proofs.laws.step_keeps_sound.Goals as goal

pub returns : goal.returns
returns c = step_keeps_sound
