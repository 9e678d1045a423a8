-- A deletion ends each desk on the page and below it.
use Rattle.site_model.proofs.LosingFacts.{deletion_ends_all}
use Rattle.site_model.proofs.laws.deletion_ends_all.Goals as goal

pub returns : goal.returns
returns c = deletion_ends_all
