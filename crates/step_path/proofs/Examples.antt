-- The definitions at worked values: steps and paths with their texts, and a move.
use Rattle.std.proofs.Common.{◌≡◌, [], ◌∷◌, refl, codes}
use Rattle.std.specs.declared.cmp.Ordering.TheVariants.{Less, Greater}
use Rattle.step_path.specs.Step.{step_text}
use Rattle.step_path.specs.Path.{path_text, steps_of, relabelled}
use Rattle.step_path.specs.Order.{path_cmp}

-- steps are four digits in base 36
step_texts : (step_text 1 ≡ codes "0001") × (step_text 35 ≡ codes "000Z")
    × (step_text 36 ≡ codes "0010") × (step_text 1_679_615 ≡ codes "ZZZZ")
unfolding step_text
step_texts = (refl, refl, refl, refl)

-- the text of a path joins those of its steps, and is read back
path_texts : (path_text (1 ∷ 36 ∷ []) ≡ codes "00010010")
    × (steps_of (codes "00010010") ≡ 1 ∷ 36 ∷ [])
unfolding path_text steps_of step_text
path_texts = (refl, refl)

-- a lower case letter reads as another digit, so that the text does not come back
lower_case : path_text (steps_of (codes "000a")) ≡ codes "0016"
unfolding path_text steps_of step_text
lower_case = refl

-- a half step at the end is passed over, so that the text does not come back
half_step : path_text (steps_of (codes "000100")) ≡ codes "0001"
unfolding path_text steps_of step_text
half_step = refl

-- a page goes along with the page above it
move : relabelled (1 ∷ 36 ∷ []) (1 ∷ 1 ∷ 2 ∷ []) (1 ∷ 36 ∷ 7 ∷ []) ≡ 1 ∷ 1 ∷ 2 ∷ 7 ∷ []
move = refl

-- a page comes before those below it, and these before its next sibling
order : (path_cmp (1 ∷ []) (1 ∷ 36 ∷ []) ≡ Less)
    × (path_cmp (1 ∷ 2 ∷ 99 ∷ []) (1 ∷ 3 ∷ []) ≡ Less)
    × (path_cmp (1 ∷ 36 ∷ []) (1 ∷ 9 ∷ []) ≡ Greater)
order = (refl, refl, refl)
