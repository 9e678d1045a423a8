-- One page more of the range.
use Rattle.std.proofs.Common.{arith}
use Rattle.path_moves.proofs.CallLemmas.{at_is_there}
use Rattle.part_commits.proofs.AliasLemmas.{one_alias_out}
use Rattle.part_commits.proofs.LeavingLemmas.{one_out}
use Rattle.part_commits.proofs.leaving.drop_between.Goals as goal

pub unreachable-requires : goal.unreachable-requires
unreachable-requires c =
    at_is_there c.args.rows.now.pages c.args.place c.args.count c.loop-done.done c.requires
    c.loop-done-test.true c.in_default.ensures

pub loop-done-preserved : goal.loop-done-preserved
loop-done-preserved c =
    let at = c.loop-done.invariant in
    record {
      expiries = one_out c.args.rows.now.pages c.args.place c.loop-done.done c.in-Some.page _ _ _
          c.in-Some.ensures at.expiries c.drop_page.ensures.expiries;
      go_lives = one_out c.args.rows.now.pages c.args.place c.loop-done.done c.in-Some.page _ _ _
          c.in-Some.ensures at.go_lives c.drop_page.ensures.go_lives;
      pairs = one_alias_out c.args.rows.now.pages c.args.place c.loop-done.done c.in-Some.page _ _ _
          c.in-Some.ensures at.pairs c.remove.ensures.pairs;
      expiries_room = omega (arith, at.expiries_room, c.drop_page.ensures.expiries_spare);
      go_lives_room = omega (arith, at.go_lives_room, c.drop_page.ensures.go_lives_spare);
      aliases_room = omega (arith, at.aliases_room, c.remove.ensures.spare);
    }
