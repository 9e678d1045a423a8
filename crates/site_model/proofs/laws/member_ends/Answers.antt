-- A membership that ends ends desks of its user alone.
use Rattle.site_model.proofs.LosingEnds.{member_ends}
use Rattle.site_model.proofs.laws.member_ends.Goals as goal

pub returns : goal.returns
returns c = member_ends
