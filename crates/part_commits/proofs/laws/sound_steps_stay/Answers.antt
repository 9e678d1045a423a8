-- In sound worlds a page names revisions of its own, and none comes in the place of one.
use Rattle.part_commits.proofs.InStepLemmas.{stays_in_step}
use Rattle.part_commits.proofs.laws.sound_steps_stay.Goals as goal

pub returns : goal.returns
returns c = stays_in_step
