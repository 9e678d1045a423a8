use Rattle.std.proofs.Common.{arith, ap}
use Rattle.outside_world.proofs.MemoryLemmas.{moved_within}
use Rattle.outside_world.proofs.pieces_source.PiecesSourceSource.read.Goals as goal

pub returns-clause-moved : goal.returns-clause-moved
returns-clause-moved c =
    moved_within _ _ _ _ _ _ (omega arith) (ap (λ v. v.feed.left) c.self.view_is)
    c.read.ensures.ok c.read.ensures.moved
