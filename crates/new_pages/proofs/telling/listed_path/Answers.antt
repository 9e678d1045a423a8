-- Each pair is looked at until one has the id.
use Rattle.std.proofs.Common.{sym, ◌∙◌}
use Rattle.new_pages.proofs.ListedLemmas.{listed_later, listed_here, listed_nowhere}
use Rattle.new_pages.proofs.telling.listed_path.Goals as goal

pub loop-id-preserved : goal.loop-id-preserved
loop-id-preserved c =
    listed_later c.args.page c.loop-id.id-index c.args.paths.now c.loop-id-item.result
    c.loop-id-test.true c.loop-id-item.is c.loop-id.invariant (sym c.if-eq.false ∙ c.eq.ensures)

pub returns-then-eq : goal.returns-then-eq
returns-then-eq c =
    listed_here c.args.page c.loop-id.id-index c.args.paths.now c.loop-id-item.result
    c.loop-id-test.true c.loop-id-item.is c.loop-id.invariant (sym c.if-eq.true ∙ c.eq.ensures)

pub returns : goal.returns
returns c =
    listed_nowhere c.args.page c.loop-id.id-index c.args.paths.now c.loop-id-test.false
    c.loop-id.invariant
