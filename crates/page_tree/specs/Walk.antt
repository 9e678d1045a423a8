-- The walk from the root to a page, and what is read off it: path, depth, number of children, URL.
use Rattle.std.specs.Prelude.{ℕ, ◌==◌, List, [], ◌∷◌, ◌++◌, ◌+◌, length, map, drop, if◌then◌else◌}
use Rattle.std.specs.List.{flat_map}
use Rattle.page_tree.specs.Tree.{Forest, bare, grown}

-- A page met on a walk: its place among its siblings, what is kept of it, and how many children it
-- has.
pub record Visit (Body : Type 0) : Type 0 where
  pub id : ℕ
  pub step : ℕ
  pub slug : List ℕ
  pub body : Body
  pub numchild : ℕ

-- the byte `/`
abbrev pub SLASH : ℕ
SLASH = 47

module _ {Body : Type 0} where
  -- how many pages stand side by side
  abbrev pub kid_count : Forest Body → ℕ
  kid_count bare = 0
  kid_count (grown i step slug body kids rest) = kid_count rest + 1

  -- the first list, or the second where the first is empty
  abbrev pub first_walk : List (Visit Body) → List (Visit Body) → List (Visit Body)
  first_walk [] others = others
  first_walk (visit ∷ visits) others = visit ∷ visits

  -- one page before a walk that begins among its children, if there is one
  abbrev pub extended : Visit Body → List (Visit Body) → List (Visit Body)
  extended here [] = []
  extended here (visit ∷ visits) = here ∷ visit ∷ visits

  -- the pages from a root down to the page with the id, that page included; empty where there is
  -- none
  abbrev pub walk : ℕ → Forest Body → List (Visit Body)
  walk id bare = []
  walk id (grown i step slug body kids rest) =
      let here : Visit Body =
      record { id = i; step = step; slug = slug; body = body; numchild = kid_count kids } in
      if i == id then here ∷ [] else first_walk (extended here (walk id kids)) (walk id rest)

  -- the path of a page: the steps on the walk to it
  abbrev pub path_of : ℕ → Forest Body → List ℕ
  path_of id tree = map (λ visit. visit.step) (walk id tree)

  -- the depth of a page: how many pages are on the walk to it
  abbrev pub depth_of : ℕ → Forest Body → ℕ
  depth_of id tree = length (walk id tree)

  -- the URL of a page: `/`, and for each page on the walk after the root its slug and `/`
  abbrev pub url_of : ℕ → Forest Body → List ℕ
  url_of id tree = SLASH ∷ flat_map (λ visit. visit.slug ++ SLASH ∷ []) (drop 1 (walk id tree))
