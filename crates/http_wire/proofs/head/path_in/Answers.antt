-- What stands before the first `?` is as long as its place.
use Rattle.std.proofs.Common.{sym}
use Rattle.std.specs.Prelude.{◌==◌}
use Rattle.http_wire.proofs.WordLemmas.{before_first-found, before_first-all}
use Rattle.http_wire.proofs.head.path_in.Goals as goal

pub returns-in-Some : goal.returns-in-Some
returns-in-Some c =
    sym (before_first-found (λ b. b == 63) c.args.target.now c.in-Some.end (sym c.in-Some.ensures))

pub returns-in-None : goal.returns-in-None
returns-in-None c = sym (before_first-all (λ b. b == 63) c.args.target.now (sym c.in-None.ensures))
