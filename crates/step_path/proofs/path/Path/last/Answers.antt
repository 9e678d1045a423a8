-- The last number of a path is a step.
use Rattle.std.proofs.Common.{◌-◌, arith}
use Rattle.step_path.proofs.PathLemmas.{AreSteps-at}
use Rattle.step_path.proofs.path.Path.last.Goals as goal

pub checked-requires : goal.checked-requires
checked-requires c =
    AreSteps-at c.deref.result.now (c.len.result - 1) 0
    (rw c.deref.ensures.0 c.self.invariant.steps)
    (rw c.deref.ensures.0 (omega (arith, c.self.invariant.some)))
