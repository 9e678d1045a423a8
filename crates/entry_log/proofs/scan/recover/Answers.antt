-- No entry was read yet.
use Rattle.std.proofs.Common.{arith}
use Rattle.entry_log.proofs.scan.recover.Goals as goal

pub returns-in-Ok-clause-ok : goal.returns-in-Ok-clause-ok
returns-in-Ok-clause-ok g c = λ honest. record {
  records = c.in-Ok.ensures.ok honest;
  are = record { each = tt; numbers = tt };
  number = omega arith;
}
