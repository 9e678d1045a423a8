-- The walk to a page, taken apart as a program takes it: what a page adds to the path and to the
-- URL of a page below it.
use Rattle.std.specs.Prelude.{ℕ, List, [], ◌∷◌, ◌++◌, Option, Some, None}
use Rattle.std.specs.List.{flat_map}
use Rattle.page_tree.specs.Tree.{Forest}
use Rattle.page_tree.specs.Walk.{Visit, SLASH, walk}

-- the slug of each page and `/` after it
abbrev pub slugs_along : {Body : Type 0} → List (Visit Body) → List ℕ
slugs_along visits = flat_map (λ visit. visit.slug ++ SLASH ∷ []) visits

-- the same for a walk that is no empty one
abbrev pub slugs_of_walk : {Body : Type 0} → List (Visit Body) → Option (List ℕ)
slugs_of_walk [] = None
slugs_of_walk (visit ∷ visits) = Some (slugs_along (visit ∷ visits))

-- the slug of each page on the walk to the page with the id, and `/` after it; nothing where there
-- is no such page
abbrev pub slugs_to : {Body : Type 0} → ℕ → Forest Body → Option (List ℕ)
slugs_to id tree = slugs_of_walk (walk id tree)
