-- The pairs of the page are pages that link to it.
use Rattle.std.proofs.Common.{ℕ, nat_eq}
use Rattle.site_types.specs.Ids.{IsPageId}
use Rattle.link_index.proofs.OrderLemmas.{all_kept}
use Rattle.link_index.proofs.LawLemmas.{rise_seconds}
use Rattle.link_index.proofs.link_index.LinkIndex.refs_to.Goals as goal

pub invariant_of-result : goal.invariant_of-result
invariant_of-result c =
    rw (c.of.ensures.value)
    (all_kept (λ (pair : ℕ × ℕ). IsPageId pair.1) (λ (pair : ℕ × ℕ). nat_eq pair.0 c.get.result) _
    c.self.invariant)

pub returns-clause-rising : goal.returns-clause-rising
returns-clause-rising c =
    rw (c.of.ensures.value) (rise_seconds c.get.result _ c.of.ensures.rises)
