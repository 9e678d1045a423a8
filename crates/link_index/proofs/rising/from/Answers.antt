-- The pairs behind those below are all the others.
use Rattle.std.proofs.Common.{ℕ, ◌∙◌, not, nat_le, nat_lt}
use Rattle.link_index.specs.Kept.{leading}
use Rattle.link_index.proofs.FrontLemmas.{back_is, rest_is, first_below, filter_alike, not_below}
use Rattle.link_index.proofs.rising.from.Goals as goal

pub returns : goal.returns
returns c =
    let test = λ (pair : ℕ × ℕ). nat_lt pair.0 c.args.first in
    rw (c.count_below.ensures.count)
    (rest_is (leading test c.args.pairs.now) c.args.pairs.now
    ∙ back_is test (first_below c.args.first) c.args.pairs.now c.requires
    ∙ filter_alike (λ (pair : ℕ × ℕ). not (nat_lt pair.0 c.args.first))
    (λ (pair : ℕ × ℕ). nat_le c.args.first pair.0) (λ pair. not_below pair.0 c.args.first)
    c.args.pairs.now)
