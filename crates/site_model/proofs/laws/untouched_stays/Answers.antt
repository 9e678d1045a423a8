-- No desk is opened or ends in a stripe that is not touched.
use Rattle.site_model.proofs.PartLemmas.{untouched_stays}
use Rattle.site_model.proofs.laws.untouched_stays.Goals as goal

pub returns : goal.returns
returns c = untouched_stays
