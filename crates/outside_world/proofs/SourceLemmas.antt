-- Lemmas about specs/Source.antt.
use Rattle.std.proofs.Common.{◌≡◌, ℕ, List, [], ◌++◌, Option, Some, None, refl, sym, ap, append_assoc}
use Rattle.outside_world.specs.Source.{with_front}

-- no bytes in front change nothing
pub with_front-nil : (left : Option (List ℕ)) → with_front [] left ≡ left
with_front-nil None = refl
with_front-nil (Some rest) = refl

-- fronts one before the other are one front
pub with_front-with_front : (held moved : List ℕ) (left : Option (List ℕ))
    → with_front held (with_front moved left) ≡ with_front (held ++ moved) left
with_front-with_front held moved None = refl
with_front-with_front held moved (Some rest) = ap Some (sym (append_assoc held moved rest))
