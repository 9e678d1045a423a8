-- What is held is what the grants so far give.
use Rattle.std.proofs.Common.{◌≡◌, take}
use Rattle.std.specs.List.{list_any}
use Rattle.grants.specs.Granted.{held_where, gives_any}
use Rattle.grants.proofs.right.granted_by.Given as goal

abbrev pub invariant-loop-grant : goal.invariant-loop-grant
invariant-loop-grant l =
    l.held ≡ held_where (λ p. list_any (gives_any l.members p) (take l.grant-index l.grants))
