-- Where the second half is no number, the whole is none.
use Rattle.std.proofs.Common.{◌%◌, refl, arith}
use Rattle.time_table.proofs.TextLemmas.{second_half}
use Rattle.time_table.proofs.digits.read_four.Goals as goal

pub returns-in_default-clause-none : goal.returns-in_default-clause-none
returns-in_default-clause-none c none n low same =
    c.in_default.ensures'.none refl (n % 100) (omega arith) (second_half c.args.text.now n same)
