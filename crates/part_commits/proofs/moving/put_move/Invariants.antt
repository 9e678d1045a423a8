-- The ledger on which the steps of a move are counted.
use Rattle.part_commits.proofs.moving.put_move.Given as goal

abbrev pub ghosts-move_counted : goal.ghosts-move_counted
ghosts-move_counted a = record { name = a.blank.name; parts = a.blank.parts }
