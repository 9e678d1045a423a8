-- Where a move leads to among the rows as they stand, and what it makes of their paths.
use Rattle.std.specs.Prelude.{◌≡◌, ℕ, ◌+◌, ◌-◌, ◌<◌, ◌≤◌, max, min, nat_lt, if◌then◌else◌, List, [], ◌∷◌, ◌++◌, Option, take, drop, length, slice_get}
use Rattle.std.specs.Option.{option_map, SomeIff}
use Rattle.std.specs.List.{AllByRecursion}
use Rattle.step_path.specs.declared.path.TheConstants.{MAX_DEPTH}
use Rattle.step_path.specs.declared.step.TheConstants.{LAST_STEP}
use Rattle.step_path.specs.Path.{relabelled}
use Rattle.site_types.specs.declared.position.Position.{Position}
use Rattle.site_types.specs.declared.position.Position.TheVariants.{FirstChild, LastChild, FirstSibling, Left, Right, LastSibling}
use Rattle.page_store.specs.PageRows.{IsRange}
use Rattle.page_store.specs.Pages.{Page}
use Rattle.path_moves.specs.declared.standing.Standing.{Standing}
use Rattle.path_moves.specs.declared.spot.Spot.{Spot}
use Rattle.path_moves.specs.declared.spot.Spot.TheVariants.{First, Before, End}
use Rattle.tree_rows.specs.Cuts.{raised_path}

-- a page's path, and the range of its rows
pub record IsStanding (pages : List Page) (row : Page) (standing : Standing) : Type 0 where
  pub path_is : standing.path ≡ row.path
  pub range : IsRange pages row standing.place standing.count

-- The spot of a position: the target stands at a place, the row behind its subtree that does not
-- move stands at the next one, and the rows of the new parent end at another.
abbrev pub spot_for : Position → ℕ → ℕ → ℕ → Spot
spot_for FirstChild place next end = First
spot_for LastChild place next end = End
spot_for FirstSibling place next end = First
spot_for Left place next end = Before place
spot_for Right place next end = if nat_lt next end then Before next else End
spot_for LastSibling place next end = End

-- the place, or the one behind so many rows where it is among them
abbrev pub place_past : ℕ → ℕ → ℕ → ℕ
place_past place count here = if nat_lt here place then here else max here (place + count)

-- the place of a spot, where the new parent stands at a place and its rows end at another
abbrev pub place_of_spot : Spot → ℕ → ℕ → ℕ
place_of_spot First top end = top + 1
place_of_spot (Before place) top end = place
place_of_spot End top end = end

-- the place, without so many rows that stand before it
abbrev pub place_without : ℕ → ℕ → ℕ → ℕ
place_without place count here = here - min count (here - place)

-- the place of the last row before an end, other than so many rows where those end there
abbrev pub last_place : ℕ → ℕ → ℕ → ℕ
last_place place count end =
    if nat_lt place end
    then (if nat_lt (place + count) end then end - 1 else place - 1)
    else end - 1

-- The path that a page takes at a spot below this path, where the step behind the last kid is given:
-- that of the page that it goes before, or one step more, where there is room for it.
abbrev pub path_of_spot : List Page → List ℕ → ℕ → Spot → Option (List ℕ) → Type 0
path_of_spot pages above next First result =
    SomeIff result (length above < MAX_DEPTH) (above ++ 1 ∷ [])
path_of_spot pages above next (Before place) result =
    result ≡ option_map (λ row. row.path) (slice_get pages place)
path_of_spot pages above next End result =
    SomeIff result (length above < MAX_DEPTH) (above ++ next ∷ [])

-- the rows between two places
abbrev pub rows_between : ℕ → ℕ → List Page → List Page
rows_between from end pages = take (end - from) (drop from pages)

-- a page with its path below another page
abbrev pub moved_pair : List ℕ → List ℕ → Page → ℕ × List ℕ
moved_pair old new row = (row.id, relabelled old new row.path)

-- a page with the step of its path at this depth one higher
abbrev pub raised_pair : ℕ → Page → ℕ × List ℕ
raised_pair depth row = (row.id, raised_path depth row.path)

-- each of the rows has at most 63 steps with the new beginning
abbrev pub FitBelow : List ℕ → List ℕ → List Page → Type 0
FitBelow old new rows =
    AllByRecursion (λ row. length (relabelled old new row.path) ≤ MAX_DEPTH) rows

-- a path goes on from another by a step that is not the greatest
pub record GoesUp (above path : List ℕ) : Type 0 where
  pub step : ℕ
  pub more : List ℕ
  pub is : path ≡ above ++ step ∷ more
  pub early : step < LAST_STEP
