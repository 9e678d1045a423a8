-- The pairs that are left are of pages.
use Rattle.std.proofs.Common.{ℕ, not, nat_eq}
use Rattle.site_types.specs.Ids.{IsPageId}
use Rattle.link_index.proofs.OrderLemmas.{all_kept}
use Rattle.link_index.proofs.link_index.LinkIndex.clear.Goals as goal

pub invariant_of-self : goal.invariant_of-self
invariant_of-self c =
    rw (c.clear.ensures.pairs)
    (all_kept (λ (pair : ℕ × ℕ). IsPageId pair.1) (λ (pair : ℕ × ℕ). not (nat_eq pair.1 c.get.result))
    c.self.inside.index.pairs c.self.invariant)
