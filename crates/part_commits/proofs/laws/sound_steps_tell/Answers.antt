-- Rows tell what becomes of pages, and sound worlds name revisions that are there.
use Rattle.part_commits.proofs.ToldLemmas.{steps_tell}
use Rattle.part_commits.proofs.laws.sound_steps_tell.Goals as goal

pub returns : goal.returns
returns c = steps_tell
