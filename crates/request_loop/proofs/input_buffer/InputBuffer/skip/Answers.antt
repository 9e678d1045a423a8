use Rattle.std.proofs.Common.{◌≤◌, ◌+◌, ◌-◌, drop, length, ap, ◌∙◌, length-take, length-drop, arith}
use Rattle.request_loop.proofs.BufferLemmas.{held_in-fewer}
use Rattle.request_loop.proofs.input_buffer.InputBuffer.skip.Goals as goal

pub returns : goal.returns
returns c =
    let buffer = c.self.inside in
    let taken = length-take (buffer.to - buffer.from) (drop buffer.from buffer.room.items) in
    let dropped = length-drop buffer.from buffer.room.items in
    let same = ap length c.self.view_is in
    let enough : buffer.from + c.args.n ≤ buffer.to = omega (
      arith,
      c.self.invariant.0,
      c.self.invariant.1,
      c.self.invariant.2,
      c.requires,
    ) in
    held_in-fewer buffer.room.items buffer.from buffer.to c.args.n enough ∙ ap (λ xs. drop c.args.n xs)
    c.self.view_is
