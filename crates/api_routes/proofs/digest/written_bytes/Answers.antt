use Rattle.std.proofs.Common.{◌+◌, ◌++◌, ℕ, List, take, slice_set, refl, sym, ap, ◌∙◌, arith}
use Rattle.std.specs.Prelude.{option_map}
use Rattle.std.proofs.lemmas.Grind.{common_steps}
use Rattle.wire_model.specs.Forms.{hex_bytes}
use Rattle.api_routes.proofs.DigestLemmas.{nothing-before, pair-read}
use Rattle.api_routes.proofs.RouteLemmas.{rest-whole}
use Rattle.api_routes.proofs.digest.written_bytes.Goals as goal

pub loop-i-init : goal.loop-i-init
loop-i-init c = record {
  size = refl;
  left = grind (arith, common_steps);
  read = nothing-before _;
}

pub loop-i-preserved : goal.loop-i-preserved
loop-i-preserved c =
    let bytes : List ℕ = c.loop-i.bytes in
    let left : List ℕ = c.loop-i.left.now in
    let i : ℕ = c.loop-i.i in
    let b : ℕ = c.in_ok-bytes.field-0 in
    record {
      size = grind (arith, common_steps);
      left = grind (arith, common_steps);
      read =
          pair-read c.args.digits.now bytes left i b (omega (arith, c.loop-i.invariant.size))
          c.in-len2-up.len_at_least c.loop-i.invariant.read (sym c.in_ok-bytes.ensures)
          ∙ ap (λ xs. option_map (λ more. take (i + 1) (slice_set bytes i b) ++ more) (hex_bytes xs))
          (rest-whole 2 left);
    }
