-- The pairs at the front are all that pass.
use Rattle.std.proofs.Common.{ℕ, nat_le}
use Rattle.link_index.proofs.FrontLemmas.{front_is, first_low}
use Rattle.link_index.proofs.rising.up_to.Goals as goal

pub returns : goal.returns
returns c =
    rw (c.count_up_to.ensures.count)
    (front_is (λ (pair : ℕ × ℕ). nat_le pair.0 c.args.first) (first_low c.args.first) c.args.pairs.now
    c.requires)
