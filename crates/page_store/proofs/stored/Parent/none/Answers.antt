-- The number 0 names no page.
use Rattle.std.proofs.Common.{refl}
use Rattle.page_store.proofs.stored.Parent.none.Goals as goal

pub returns : goal.returns
returns c = refl
