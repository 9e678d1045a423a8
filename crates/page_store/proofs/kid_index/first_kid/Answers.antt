-- One page more is not the kid, or it is the first that is.
use Rattle.std.proofs.Common.{◌∙◌, sym}
use Rattle.page_store.specs.KidIndex.{is_kid}
use Rattle.page_store.proofs.FindLemmas.{find_next, find_here}
use Rattle.page_store.proofs.kid_index.first_kid.Goals as goal

pub returns-then-is_kid : goal.returns-then-is_kid
returns-then-is_kid c =
    find_here (is_kid c.args.stored.now.entries c.args.parent c.args.slug.now) c.args.ids.now
    c.loop-id.id-index c.id-item.result c.loop-id.invariant c.loop-id-test.true c.id-item.is (sym
    c.is_kid.ensures ∙ c.if-is_kid.true)

pub loop-id-preserved : goal.loop-id-preserved
loop-id-preserved c =
    find_next (is_kid c.args.stored.now.entries c.args.parent c.args.slug.now) c.args.ids.now
    c.loop-id.id-index c.id-item.result c.loop-id.invariant c.loop-id-test.true c.id-item.is (sym
    c.is_kid.ensures ∙ c.if-is_kid.false)
