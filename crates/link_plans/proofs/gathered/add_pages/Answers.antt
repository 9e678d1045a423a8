-- One page more.
use Rattle.link_plans.specs.Told.{finds_told}
use Rattle.link_plans.proofs.GatheredLemmas.{pages_step}
use Rattle.link_plans.proofs.gathered.add_pages.Goals as goal

pub loop-fate-preserved : goal.loop-fate-preserved
loop-fate-preserved c = λ page linked was.
    let finds = finds_told c.args.edit.now.rows.now.pages c.args.edit.now.shelf.now.revisions
    c.args.edit.now.new.now c.args.edit.now.fates.now in
    pages_step finds c.args.edit.now.fates.now c.loop-fate.fate-index c.fate-item.result
    c.loop-fate-test.true c.fate-item.is page linked was _ c.loop-fate.planned.items c.in_ok-ids.ids
    c.push.new.self.items c.in_ok-push.ensures.items c.in_ok-ids.ensures
    (c.loop-fate.invariant page linked was)
