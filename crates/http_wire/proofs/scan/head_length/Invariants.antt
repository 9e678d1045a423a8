use Rattle.std.proofs.Common.{◌≡◌, drop}
use Rattle.http_model.specs.Requests.{head_length}
use Rattle.http_wire.specs.Scanning.{counted_from}
use Rattle.http_wire.proofs.scan.head_length.Given as goal

-- the head ends where what is left says
abbrev pub invariant-loop-i : goal.invariant-loop-i
invariant-loop-i l =
    counted_from l.i (head_length (drop l.i l.bytes))
    ≡ counted_from l.from (head_length (drop l.from l.bytes))
