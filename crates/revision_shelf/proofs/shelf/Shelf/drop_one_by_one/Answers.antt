-- Page by page.
use Rattle.std.proofs.Common.{arith}
use Rattle.site_types.specs.declared.revision.Revision.{Revision}
use Rattle.revision_shelf.proofs.PagesLemmas.{one_gone, all_gone}
use Rattle.revision_shelf.proofs.shelf.Shelf.drop_one_by_one.Goals as goal

pub loop-number-preserved : goal.loop-number-preserved
loop-number-preserved c =
    record {
      left = rw c.drop_page.ensures.revisions
          (one_gone (λ (revision : Revision). revision.page) c.args.pages.now
          c.loop-number.number-index c.loop-number.self.revisions _ c.loop-number.invariant.left
          c.page_of.result c.loop-number-test.true c.page_of.ensures);
      room = omega (arith, c.loop-number.invariant.room, c.drop_page.ensures.spare);
    }

pub returns-clause-revisions : goal.returns-clause-revisions
returns-clause-revisions c =
    all_gone (λ (revision : Revision). revision.page) c.args.pages.now c.loop-number.number-index
    c.loop-number.self.revisions _ c.loop-number.invariant.left c.loop-number-test.false
