-- The newest goes again and again, until the page has none.
use Rattle.std.proofs.Common.{◌≡◌, ◌∙◌, ℕ, Bool, false, Option, Some, None, is_some, sym, arith}
use Rattle.revision_shelf.specs.Kept.{without_latest}
use Rattle.revision_shelf.proofs.ChainLemmas.{others_then, chain_over}
use Rattle.revision_shelf.proofs.chain.take_chain.Goals as goal

pub loop-page-preserved : goal.loop-page-preserved
loop-page-preserved c =
    let at = c.loop-page.invariant in
    record {
      chained = λ revisions kept.
          let before = at.chained revisions kept in (
            without_latest c.args.page before.0,
            c.take_newest.ensures.chained before.0 before.1,
            others_then c.args.page before.0 before.1.rises ∙ before.2,
          );
      room_stored = omega (arith, at.room_stored, c.take_newest.ensures.spare_stored);
      room_newest = omega (arith, at.room_newest, c.take_newest.ensures.spare_newest);
    }

-- what is not some is none
none_from : (o : Option ℕ) (t : Bool) → t ≡ is_some o → t ≡ false → o ≡ None
none_from None t is fails = cc
none_from (Some x) t is fails = absurd cc

pub returns-clause-chained : goal.returns-clause-chained
returns-clause-chained c = λ revisions kept.
    let before = c.loop-page.invariant.chained revisions kept in
    let none = none_from c.take_newest.result _ c.is_some.ensures c.loop-page-test.false in
    chain_over _ _ _ c.args.page before.0 revisions (sym (before.1.last c.args.page) ∙ sym
    c.take_newest.ensures.newest ∙ none) (c.take_newest.ensures.chained before.0 before.1) before.2
