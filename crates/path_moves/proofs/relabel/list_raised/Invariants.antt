-- The rows so far that do not move are listed.
use Rattle.std.proofs.Common.{◌≡◌, ◌++◌, map, length}
use Rattle.tree_rows.specs.Cuts.{other_rows}
use Rattle.path_moves.specs.Spots.{rows_between, raised_pair}
use Rattle.path_moves.proofs.relabel.list_raised.Given as goal

abbrev pub invariant-loop-place : goal.invariant-loop-place
invariant-loop-place l =
    l.list.items ≡ l.initial.list.items
    ++ map (raised_pair (length l.above))
    (other_rows l.own.path (rows_between l.from l.place l.rows.pages))
