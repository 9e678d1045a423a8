-- One page more.
use Rattle.std.proofs.Common.{◌≡◌, map, take, drop, ap, ◌∙◌, arith}
use Rattle.page_copies.specs.Copied.{copied_pair}
use Rattle.page_copies.proofs.CopyLemmas.{mapped_more, gets_at}
use Rattle.page_copies.proofs.copy.copied_between.Goals as goal

pub copied_at-requires-clause-there : goal.copied_at-requires-clause-there
copied_at-requires-clause-there c = (
  c.requires.there.0,
  c.requires.there.1,
  gets_at c.requires.there.0 c.args.rows.now.pages c.args.place c.args.count c.loop-done.done
      c.requires.within c.loop-done-test.true c.requires.there.2,
)

pub loop-done-preserved : goal.loop-done-preserved
loop-done-preserved c = λ part stand.
    c.in_ok-push.ensures.items
    ∙ mapped_more (copied_pair part) c.args.rows.now.pages c.args.place c.loop-done.done
    c.in_ok-pair.pair c.loop-done.pages.items (c.loop-done.invariant part stand)
    (c.in_ok-pair.ensures part stand)

pub returns : goal.returns
returns c = λ part stand.
    let whole : c.loop-done.done ≡ c.args.count = omega arith in
    c.from_vec.ensures
    ∙ (c.loop-done.invariant part stand
    ∙ ap (λ n. map (copied_pair part) (take n (drop c.args.place c.args.rows.now.pages))) whole)
