-- A move ends those desks on moved pages whose users may not edit there below the new parent.
use Rattle.site_model.proofs.LosingEnds.{move_ends}
use Rattle.site_model.proofs.laws.move_ends.Goals as goal

pub returns : goal.returns
returns c = move_ends
