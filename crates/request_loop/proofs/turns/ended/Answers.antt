-- Less than a request is short.
use Rattle.std.proofs.Common.{arith}
use Rattle.http_model.proofs.BoundLemmas.{part_is_short}
use Rattle.request_loop.proofs.turns.ended.Goals as goal

pub overflow_cast-result : goal.overflow_cast-result
overflow_cast-result c = let few = part_is_short c.args.bytes.now c.requires in omega arith
