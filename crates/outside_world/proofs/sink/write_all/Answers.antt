use Rattle.std.proofs.Common.{arith, length-take, length-drop, ℕ}
use Rattle.outside_world.proofs.SinkLemmas.{with_back_more, AppendsPart_more}
use Rattle.outside_world.proofs.sink.write_all.Goals as goal

pub loop-written-preserved : goal.loop-written-preserved
loop-written-preserved g c = record {
  within =
      let fits = c.in-Ok.ensures.fits in
      omega (arith, length-take {A = ℕ}, length-drop {A = ℕ});
  appended = with_back_more _ _ _ _ _ _ c.loop-written.invariant.appended c.in-Ok.ensures.taken;
  later = omega arith;
}

pub returns-in-Err-clause-part : goal.returns-in-Err-clause-part
returns-in-Err-clause-part g c =
    let before = c.loop-written.invariant in
    AppendsPart_more _ _ _ _ _ before.within before.appended c.in-Err.ensures.part
