-- The current task of a moderation, and its groups.
use Rattle.std.proofs.Common.{◌≡◌, ◌≤◌, ◌<◌, ◌+◌, ◌-◌, ℕ, zero, suc, true, List, [], ◌∷◌, length, get_or, Some, refl, arith}
use Rattle.std.proofs.lemmas.Bool.Decides.{nat_tests}
use Rattle.std.specs.List.{AllByRecursion}
use Rattle.site_model.specs.Views.{list_at, number_at}
use Rattle.site_model.specs.Rules.{is_given}
use Rattle.site_model.specs.Sound.{IsGiven, NamesSome}
use Rattle.workflow.specs.Flows.{AreFlows, list_with}

-- the number at a place, counted from 1, stands at the place before it
number_after : (numbers : List ℕ) (place : ℕ) →
    get_or numbers place 0 ≡ number_at numbers (suc place)
number_after [] place = refl
number_after (number ∷ numbers) zero = refl
number_after (number ∷ numbers) (suc place) = number_after numbers place

-- the same of any place from 1 on
pub number_placed : (numbers : List ℕ) (place before : ℕ) → 1 ≤ place → before ≡ place - 1 →
    get_or numbers before 0 ≡ number_at numbers place
number_placed numbers place before some is =
    let after : place ≡ suc before = omega arith in rw after (number_after numbers before)

-- the number at a place that is there is given where all are
number_given : (next : ℕ) (numbers : List ℕ) (place : ℕ) → 1 ≤ place → place ≤ length numbers →
    AllByRecursion (IsGiven next) numbers → IsGiven next (number_at numbers place)
number_given next [] place some within all = let never : ⊥ = omega arith in absurd never
number_given next (number ∷ numbers) zero some within all =
    let never : ⊥ = omega arith in absurd never
number_given next (number ∷ numbers) (suc zero) some within all = all.0
number_given next (number ∷ numbers) (suc (suc place)) some within all =
    number_given next numbers (suc place) (omega arith) (omega (arith, within)) all.1

-- the numbers of a list are given where those of all lists are
at_given : (next : ℕ) (lists : List (List ℕ)) (number : ℕ) → AllByRecursion (NamesSome next) lists →
    AllByRecursion (IsGiven next) (list_at lists number)
at_given next [] number all = tt
at_given next (list ∷ lists) zero all = tt
at_given next (list ∷ lists) (suc zero) all = all.0.there
at_given next (list ∷ lists) (suc (suc number)) all = at_given next lists (suc number) all.1

-- a list whose number is given is found
pub given_found : (lists : List (List ℕ)) (number : ℕ) → IsGiven (length lists + 1) number →
    list_with lists number ≡ Some (list_at lists number)
given_found lists number given =
    let from = given.0 in
    let below = given.1 in
    let is : is_given (length lists + 1) number ≡ true = grind (arith, nat_tests) in
    rw is refl

-- the current task of a moderation is there
pub task_there : (tasks workflows : List (List ℕ)) (workflow place : ℕ) → AreFlows tasks workflows →
    1 ≤ place → place ≤ length (list_at workflows workflow) →
    IsGiven (length tasks + 1) (number_at (list_at workflows workflow) place)
task_there tasks workflows workflow place kept some within =
    number_given (length tasks + 1) (list_at workflows workflow) place some within
    (at_given (length tasks + 1) workflows workflow kept.workflow_tasks)

-- no list has number 0
pub none_first : (lists : List (List ℕ)) (number : ℕ) → number ≡ 0 → [] ≡ list_at lists number
none_first [] number is = refl
none_first (list ∷ lists) number is = rw is refl

-- no number stands at place 0
pub none_placed_first : (numbers : List ℕ) (place : ℕ) → place ≡ 0 → 0 ≡ number_at numbers place
none_placed_first [] place is = refl
none_placed_first (number ∷ numbers) place is = rw is refl

-- nor at a place past their end
pub none_past : (numbers : List ℕ) (place : ℕ) → length numbers < place →
    0 ≡ number_at numbers place
none_past [] place past = refl
none_past (number ∷ numbers) zero past = refl
none_past (number ∷ numbers) (suc zero) past = absurd never
  where
    never : ⊥
    never = omega (arith, past)
none_past (number ∷ numbers) (suc (suc place)) past =
    none_past numbers (suc place) (omega (arith, past))
