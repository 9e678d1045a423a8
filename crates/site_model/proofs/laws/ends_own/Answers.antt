-- A command without suspects ends no desk but the one that it shuts.
use Rattle.site_model.proofs.LosingEnds.{ends_own}
use Rattle.site_model.proofs.laws.ends_own.Goals as goal

pub returns : goal.returns
returns c = ends_own
