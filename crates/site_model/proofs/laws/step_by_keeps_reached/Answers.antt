-- Each command keeps what it touches sound.
use Rattle.site_model.proofs.ReachedSound.{step_by_keeps_reached}
use Rattle.site_model.proofs.laws.step_by_keeps_reached.Goals as goal

pub returns : goal.returns
returns c = step_by_keeps_reached
