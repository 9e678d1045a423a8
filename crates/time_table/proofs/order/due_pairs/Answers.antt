-- The pairs at the front are all that are due.
use Rattle.std.proofs.Common.{nat_le}
use Rattle.time_table.proofs.EntryLemmas.{earlier_low}
use Rattle.time_table.proofs.FrontLemmas.{front_is}
use Rattle.time_table.proofs.order.due_pairs.Goals as goal

pub returns : goal.returns
returns c =
    rw (c.due_count.ensures.count)
    (front_is (λ entry. nat_le entry.0 c.args.t) (λ a b h k. earlier_low a b c.args.t h k)
    c.args.order.now c.requires)
