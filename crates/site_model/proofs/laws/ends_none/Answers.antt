-- A command without suspects that shuts no desk ends none.
use Rattle.site_model.proofs.LosingEnds.{ends_none}
use Rattle.site_model.proofs.laws.ends_none.Goals as goal

pub returns : goal.returns
returns c = ends_none
