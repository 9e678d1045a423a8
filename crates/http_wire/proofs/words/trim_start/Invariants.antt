use Rattle.std.proofs.Common.{◌≡◌, length}
use Rattle.httparse.specs.Grammar.{skip_ows}
use Rattle.http_wire.proofs.words.trim_start.Given as goal

-- what is left has the same bytes after its blanks
abbrev pub invariant-loop-bytes : goal.invariant-loop-bytes
invariant-loop-bytes l = skip_ows l.bytes ≡ skip_ows l.fn.bytes

-- fewer bytes are left
abbrev pub decreases-loop-bytes : goal.decreases-loop-bytes
decreases-loop-bytes l = length l.bytes
