-- Those at least at the number among those at most at it.
use Rattle.std.proofs.Common.{ℕ, ◌∙◌, nat_le, sym, subst}
use Rattle.link_index.specs.Pairs.{PairsRise}
use Rattle.link_index.proofs.FrontLemmas.{between, rise_kept}
use Rattle.link_index.proofs.rising.with_first.Goals as goal

pub from-requires : goal.from-requires
from-requires c =
    subst PairsRise (sym c.up_to.ensures)
    (rise_kept (λ (pair : ℕ × ℕ). nat_le pair.0 c.args.first) c.args.pairs.now c.requires)

pub returns : goal.returns
returns c = c.from.ensures ∙ rw (c.up_to.ensures) (between c.args.first c.args.pairs.now)
