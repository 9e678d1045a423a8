-- Page by page.
use Rattle.std.proofs.Common.{refl}
use Rattle.site_model.specs.World.{DeskPair}
use Rattle.part_commits.proofs.DropLemmas.{one_gone, all_gone}
use Rattle.part_commits.proofs.pairs.cut_pairs.Goals as goal

pub loop-number-init : goal.loop-number-init
loop-number-init c = refl

pub loop-number-preserved : goal.loop-number-preserved
loop-number-preserved c =
    rw c.cut.ensures.pairs
    (one_gone (λ (pair : DeskPair). pair.page) c.args.shut.now c.loop-number.number-index
    c.loop-number.pairs.pairs _ c.loop-number.invariant c.page_of.result c.loop-number-test.true
    c.page_of.ensures)

pub returns : goal.returns
returns c =
    all_gone (λ (pair : DeskPair). pair.page) c.args.shut.now c.loop-number.number-index
    c.loop-number.pairs.pairs _ c.loop-number.invariant c.loop-number-test.false
