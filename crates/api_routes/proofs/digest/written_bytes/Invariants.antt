use Rattle.std.proofs.Common.{◌≡◌, ◌+◌, ◌*◌, ◌++◌, length, take}
use Rattle.std.specs.Prelude.{option_map}
use Rattle.wire_model.specs.Forms.{hex_bytes}
use Rattle.api_routes.proofs.digest.written_bytes.Given as goal

-- the bytes so far stand before those that what is left of the digits writes
abbrev pub invariant-loop-i : goal.invariant-loop-i
invariant-loop-i l = record {
  size : length l.bytes ≡ 32;
  left : length l.left + 2 * l.i ≡ 64;
  read : hex_bytes l.digits ≡ option_map (λ more. take l.i l.bytes ++ more) (hex_bytes l.left);
}
