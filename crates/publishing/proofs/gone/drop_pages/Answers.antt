-- Page by page.
use Rattle.std.proofs.Common.{arith}
use Rattle.publishing.proofs.TimesLemmas.{one_gone, all_gone, timed-left}
use Rattle.publishing.proofs.gone.drop_pages.Goals as goal

pub loop-number-preserved : goal.loop-number-preserved
loop-number-preserved c =
    let at = c.loop-number.invariant in
    record {
      expiries = rw c.drop_page.ensures.expiries
          (one_gone c.args.pages.now c.loop-number.number-index _ _ at.expiries c.page_of.result
          c.loop-number-test.true c.page_of.ensures);
      go_lives = rw c.drop_page.ensures.go_lives
          (one_gone c.args.pages.now c.loop-number.number-index _ _ at.go_lives c.page_of.result
          c.loop-number-test.true c.page_of.ensures);
      expiries_room = omega (arith, at.expiries_room, c.drop_page.ensures.expiries_spare);
      go_lives_room = omega (arith, at.go_lives_room, c.drop_page.ensures.go_lives_spare);
    }

pub returns-clause-expiries : goal.returns-clause-expiries
returns-clause-expiries c =
    all_gone c.args.pages.now c.loop-number.number-index _ _ c.loop-number.invariant.expiries
    c.loop-number-test.false

pub returns-clause-go_lives : goal.returns-clause-go_lives
returns-clause-go_lives c =
    all_gone c.args.pages.now c.loop-number.number-index _ _ c.loop-number.invariant.go_lives
    c.loop-number-test.false

pub returns-clause-timed : goal.returns-clause-timed
returns-clause-timed c = λ before after revisions timed are.
    timed-left c.args.pages.now c.args.times.now _ before after revisions
    (all_gone c.args.pages.now c.loop-number.number-index _ _ c.loop-number.invariant.expiries
    c.loop-number-test.false)
    (all_gone c.args.pages.now c.loop-number.number-index _ _ c.loop-number.invariant.go_lives
    c.loop-number-test.false)
    timed are
