-- A grant that is withdrawn ends desks of its group's members, on its page and below it alone.
use Rattle.site_model.proofs.LosingEnds.{grant_ends}
use Rattle.site_model.proofs.laws.grant_ends.Goals as goal

pub returns : goal.returns
returns c = grant_ends
