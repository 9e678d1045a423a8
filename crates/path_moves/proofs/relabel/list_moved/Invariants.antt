-- The pages so far are listed, and each has a path.
use Rattle.std.proofs.Common.{◌≡◌, ◌++◌, map, take, drop}
use Rattle.path_moves.specs.Spots.{moved_pair, FitBelow}
use Rattle.path_moves.proofs.relabel.list_moved.Given as goal

abbrev pub invariant-loop-done : goal.invariant-loop-done
invariant-loop-done l = record {
  listed : l.list.items ≡ l.initial.list.items
      ++ map (moved_pair l.own.path l.path) (take l.done (drop l.own.place l.rows.pages));
  fits : FitBelow l.own.path l.path (take l.done (drop l.own.place l.rows.pages));
}
