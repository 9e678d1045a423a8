-- None of the pages so far is the kid.
use Rattle.std.proofs.Common.{◌≡◌, None, find, take}
use Rattle.page_store.specs.KidIndex.{is_kid}
use Rattle.page_store.proofs.kid_index.first_kid.Given as goal

abbrev pub invariant-loop-id : goal.invariant-loop-id
invariant-loop-id l = find (is_kid l.stored.entries l.parent l.slug) (take l.id-index l.ids) ≡ None
