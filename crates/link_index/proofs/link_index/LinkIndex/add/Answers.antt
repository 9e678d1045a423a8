-- The page that is put in is a page.
use Rattle.std.proofs.Common.{ℕ}
use Rattle.site_types.specs.Ids.{IsPageId}
use Rattle.link_index.proofs.OrderLemmas.{all_put}
use Rattle.link_index.proofs.link_index.LinkIndex.add.Goals as goal

pub invariant_of-self : goal.invariant_of-self
invariant_of-self c =
    rw (c.put.ensures.pairs)
    (all_put (λ (pair : ℕ × ℕ). IsPageId pair.1) (c.args.linked, c.get.result)
    c.self.inside.index.pairs c.self.invariant c.get.ensures.range)
