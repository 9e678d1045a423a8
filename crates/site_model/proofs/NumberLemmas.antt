-- Lists that are counted from 1: which one has a number.
use Rattle.std.proofs.Common.{◌≡◌, ◌≤◌, ℕ, zero, suc, List, [], ◌∷◌, ◌++◌, length, refl, sym, ◌∙◌, arith}
use Rattle.std.specs.List.{AllByRecursion}
use Rattle.site_model.specs.Views.{list_at}
use Rattle.site_model.specs.Sound.{NamesSome}

-- no list has the number 0
list_zero : (lists : List (List ℕ)) → list_at lists 0 ≡ []
list_zero [] = refl
list_zero (list ∷ lists) = refl

-- a list stays where more are there
pub list_front : (lists more : List (List ℕ)) (number : ℕ) → number ≤ length lists →
    list_at (lists ++ more) number ≡ list_at lists number
list_front lists more zero within = list_zero (lists ++ more) ∙ sym (list_zero lists)
list_front [] more (suc number) within = let never : ⊥ = omega (arith, within) in absurd never
list_front (list ∷ lists) more (suc zero) within = refl
list_front (list ∷ lists) more (suc (suc number)) within =
    list_front lists more (suc number) (omega (arith, within))

-- the list with a number names something, where each does
pub list_some : (next : ℕ) (lists : List (List ℕ)) (number : ℕ) →
    AllByRecursion (NamesSome next) lists → 1 ≤ number → number ≤ length lists →
    1 ≤ length (list_at lists number)
list_some next [] number all some within =
    let never : ⊥ = omega (arith, some, within) in absurd never
list_some next (list ∷ lists) zero all some within =
    let never : ⊥ = omega (arith, some) in absurd never
list_some next (list ∷ lists) (suc zero) all some within = all.0.not_empty
list_some next (list ∷ lists) (suc (suc number)) all some within =
    list_some next lists (suc number) all.1 (omega arith) (omega (arith, within))
