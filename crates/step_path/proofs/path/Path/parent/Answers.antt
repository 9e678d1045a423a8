-- The first steps of a path are a path.
use Rattle.std.proofs.Common.{◌-◌, ◌<◌, ◌≤◌, length, get_or, arith}
use Rattle.step_path.proofs.PathLemmas.{IsPath-take, front_and_last}
use Rattle.step_path.proofs.path.Path.parent.Goals as goal

pub invariant_of-result : goal.invariant_of-result
invariant_of-result c =
    let path = c.self.inside.steps.items in
    let some : 0 < c.len-depth.result - 1 = omega (arith, c.self.invariant.some) in
    let short : c.len-depth.result - 1 ≤ length path = omega arith in
    rw (c.copied.ensures, c.deref.ensures.0)
    (IsPath-take path (c.len-depth.result - 1) c.self.invariant some short)

pub returns-clause-child : goal.returns-clause-child
returns-clause-child c =
    let path = c.self.inside.steps.items in
    let n = c.len-depth.result - 1 in (
      get_or path n 0,
      rw (← c.self.view_is, c.copied.ensures, c.deref.ensures.0)
          (front_and_last path n 0 (omega (arith, c.self.invariant.some))),
    )
