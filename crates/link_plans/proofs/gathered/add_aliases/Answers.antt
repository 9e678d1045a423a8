-- The aliases of one page more.
use Rattle.link_plans.specs.Told.{finds_told}
use Rattle.link_plans.proofs.GatheredLemmas.{aliases_step}
use Rattle.link_plans.proofs.gathered.add_aliases.Goals as goal

pub loop-fate-preserved : goal.loop-fate-preserved
loop-fate-preserved c = λ page linked was.
    let finds = finds_told c.args.edit.now.rows.now.pages c.args.edit.now.shelf.now.revisions
    c.args.edit.now.new.now c.args.edit.now.fates.now in
    aliases_step finds c.args.edit.now.fates.now c.loop-fate.fate-index c.fate-item.result
    c.loop-fate-test.true c.fate-item.is page c.args.aliases.now.pairs linked was _
    c.loop-fate.planned.items c.add_aliases_of.new.planned.items
    (c.in_ok-add_aliases_of.ensures page linked was) (c.loop-fate.invariant page linked was)
