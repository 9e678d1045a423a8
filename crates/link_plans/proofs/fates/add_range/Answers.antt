-- One page more of the range.
use Rattle.path_moves.proofs.CallLemmas.{at_is_there}
use Rattle.link_plans.proofs.GoingLemmas.{one_gone}
use Rattle.link_plans.proofs.fates.add_range.Goals as goal

pub unreachable-requires : goal.unreachable-requires
unreachable-requires c =
    at_is_there c.args.rows.now.pages c.args.place c.args.count c.loop-done.done c.requires
    c.loop-done-test.true c.in_default.ensures

pub loop-done-preserved : goal.loop-done-preserved
loop-done-preserved c =
    one_gone c.args.rows.now.pages c.args.place c.loop-done.done c.in-Some.page _
    c.loop-done.fates.items _ c.loop-done.invariant c.in-Some.ensures c.in_ok-push.ensures.items
