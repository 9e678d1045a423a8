-- Page by page.
use Rattle.std.proofs.Common.{List, subst, arith}
use Rattle.site_types.specs.declared.revision.Revision.{Revision}
use Rattle.revision_shelf.specs.Shelf.{without_page}
use Rattle.revision_shelf.specs.Kept.{IsChained}
use Rattle.revision_shelf.proofs.PagesLemmas.{one_gone, all_gone}
use Rattle.revision_shelf.proofs.chain.take_pages.Goals as goal

pub loop-number-preserved : goal.loop-number-preserved
loop-number-preserved c =
    let at = c.loop-number.invariant in
    record {
      chained = λ revisions kept.
          let before = at.chained revisions kept in (
            without_page c.page_of.result before.0,
            c.take_chain.ensures.chained before.0 before.1,
            one_gone (λ (revision : Revision). revision.page) c.args.pages.now
                c.loop-number.number-index before.0 _ before.2 c.page_of.result c.loop-number-test.true
                c.page_of.ensures,
          );
      room_stored = omega (arith, at.room_stored, c.take_chain.ensures.spare_stored);
      room_newest = omega (arith, at.room_newest, c.take_chain.ensures.spare_newest);
    }

pub returns-clause-chained : goal.returns-clause-chained
returns-clause-chained c = λ revisions kept.
    let before = c.loop-number.invariant.chained revisions kept in
    subst (λ (rest : List Revision). IsChained c.loop-number.stored.entries c.loop-number.newest.entries
    c.loop-number.weight rest) (all_gone (λ (revision : Revision). revision.page) c.args.pages.now
    c.loop-number.number-index before.0 _ before.2 c.loop-number-test.false) before.1
