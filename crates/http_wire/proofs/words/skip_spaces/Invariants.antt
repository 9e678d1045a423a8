use Rattle.std.proofs.Common.{◌≡◌, length}
use Rattle.http_model.specs.Fields.{skip_spaces}
use Rattle.http_wire.proofs.words.skip_spaces.Given as goal

-- what is left has the same bytes after its spaces
abbrev pub invariant-loop-bytes : goal.invariant-loop-bytes
invariant-loop-bytes l = skip_spaces l.bytes ≡ skip_spaces l.fn.bytes

-- fewer bytes are left
abbrev pub decreases-loop-bytes : goal.decreases-loop-bytes
decreases-loop-bytes l = length l.bytes
