-- The order of keys: lists of numbers, of which the first that differs decides.
use Rattle.std.proofs.Common.{◌≡◌, ℕ, true, List}
use Rattle.page_tree.specs.Rows.{comes_before}
use Rattle.page_tree.proofs.OrderLemmas.{comes_before-not_back}

-- no key comes before itself
pub before_self : (a b : List ℕ) → a ≡ b → comes_before a b ≡ true → ⊥
before_self a b same h =
    let back = comes_before-not_back a b h in
    let turned : comes_before b a ≡ comes_before a b = cc in
    cc
