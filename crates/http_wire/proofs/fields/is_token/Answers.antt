-- The three tests are those of the definition.
use Rattle.std.proofs.Common.{◌≡◌, ◌≤◌, ◌∙◌, ℕ, Bool, false, length, arith, sym, nat_lt, nat_le, ◌&&◌}
use Rattle.std.specs.Prelude.{◌==◌}
use Rattle.std.proofs.lemmas.Bool.Decides.{nat_tests}
use Rattle.http_wire.proofs.fields.is_token.Goals as goal

-- where the length is within the limits, the last test decides
last_decides : (n : ℕ) (all : Bool) → (n == 0) ≡ false → n ≤ 128 →
    all ≡ (nat_lt 0 n && (nat_le n 128 && all))
last_decides n all some few = grind (arith, nat_tests)

pub returns : goal.returns
returns c =
    let some = c.if-is_empty.false in let is = c.is_empty.ensures in
    c.are_graphic.ensures
    ∙ last_decides (length c.args.bytes.now) _ (sym is ∙ some) c.if-bytes-gt-MAX_TOKEN.false
