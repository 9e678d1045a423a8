-- One page more is listed.
use Rattle.path_moves.proofs.RelabelLemmas.{moved_more, fits_more}
use Rattle.path_moves.proofs.relabel.list_moved.Goals as goal

pub loop-done-preserved : goal.loop-done-preserved
loop-done-preserved c = record {
  listed = moved_more c.args.rows.now.pages c.args.own.now.place c.loop-done.done
      c.args.own.now.path c.args.path.now c.args.list.now.items c.loop-done.list.items _
      c.in-Some.row c.in-Some-with_prefix.new c.loop-done.invariant.listed c.in-Some.ensures
      c.in-Some-with_prefix.ensures.1 c.in-Ok.ensures.items;
  fits = fits_more c.args.rows.now.pages c.args.own.now.place c.loop-done.done
      c.args.own.now.path c.args.path.now c.in-Some.row c.loop-done.invariant.fits
      c.in-Some.ensures c.in-Some-with_prefix.ensures.0;
}
