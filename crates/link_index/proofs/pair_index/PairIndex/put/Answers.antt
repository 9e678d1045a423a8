-- The pair is put in in both directions.
use Rattle.link_index.proofs.SetLemmas.{turned_put}
use Rattle.link_index.proofs.pair_index.PairIndex.put.Goals as goal

pub invariant_of-self : goal.invariant_of-self
invariant_of-self c =
    rw (c.put.ensures.items, c.put-2.ensures.items)
    (turned_put c.args.first c.args.second _ _ c.self.invariant)
