-- The key is freed if the page stands there, and the page leaves the clashes.
use Rattle.page_store.proofs.KidIndexLemmas.{take_key}
use Rattle.page_store.proofs.kid_index.KidIndex.take.Goals as goal

pub returns-clause-taken : goal.returns-clause-taken
returns-clause-taken c keys is own =
    rw c.leave_out.ensures.items (take_key _ _ keys c.args.key c.args.kid is own _ c.free_key.ensures.keys)
