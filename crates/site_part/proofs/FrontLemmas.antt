-- What the first rules tell: that they let a command pass, or which of them refuses it.
use Rattle.std.proofs.Common.{◌≡◌, Option, Some, None, Ok, Err, refl}
use Rattle.site_types.specs.declared.refusal.Refusal.{Refusal}
use Rattle.site_part.specs.Needs.{rule_told}

-- a command that passes is refused by none of them
pub passed : (rule : Option Refusal) → Ok tt ≡ rule_told rule → rule ≡ None
passed None is = refl
passed (Some refusal) is = absurd (cc)

-- and one that is refused by the one that is told
pub refused : (rule : Option Refusal) (refusal : Refusal) → Err refusal ≡ rule_told rule →
    rule ≡ Some refusal
refused None refusal is = absurd (cc)
refused (Some other) refusal is = cc
