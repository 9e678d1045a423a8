-- A page goes to its key if that is free, and else among the clashes.
use Rattle.page_store.proofs.KidIndexLemmas.{nothing, add_at_key, add_clash}
use Rattle.page_store.proofs.kid_index.KidIndex.add.Goals as goal

pub returns-then-contains_key-clause-added : goal.returns-then-contains_key-clause-added
returns-then-contains_key-clause-added c keys is new =
    rw c.push.ensures.items (add_clash _ _ keys c.args.key c.args.kid is new)

pub returns-else-contains_key-clause-added : goal.returns-else-contains_key-clause-added
returns-else-contains_key-clause-added c keys is new =
    add_at_key _ _ keys c.args.key c.args.kid is new _ (nothing _ _ c.contains_key.ensures
    c.if-contains_key.false) c.put.ensures.updates.0
