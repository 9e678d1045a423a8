-- How the shelf keeps its revisions: by id, with the ids in order, and the newest of each page, from
-- which each leads to the one before it.
use Rattle.std.specs.Prelude.{◌≡◌, ℕ, ◌<◌, Bool, true, not, nat_eq, nat_lt, Option, Some, None, List, [], ◌∷◌, map, filter}
use Rattle.std.specs.Option.{option_map, option_map_or, IfSome}
use Rattle.std.specs.Map.{lookup}
use Rattle.site_types.specs.declared.revision.Revision.{Revision}
use Rattle.revision_shelf.specs.declared.shelf.Kept.{Kept}
use Rattle.revision_shelf.specs.Shelf.{revision_with, latest_of, total_weight, Rises}

-- the revision that is kept, where there is one, before others
abbrev pub seen_before : Option Kept → List Revision → List Revision
seen_before None revisions = revisions
seen_before (Some kept) revisions = kept.revision ∷ revisions

-- the revisions that are kept of these ids, in their order
abbrev pub revisions_seen : List (ℕ × Kept) → List ℕ → List Revision
revisions_seen stored [] = []
revisions_seen stored (id ∷ ids) =
    seen_before (lookup (nat_eq id) stored) (revisions_seen stored ids)

-- the revisions with ids below this one
abbrev pub below : ℕ → List Revision → List Revision
below id revisions = filter (λ revision. nat_lt revision.id id) revisions

-- the revisions with other ids
abbrev pub without : ℕ → List Revision → List Revision
without id revisions = filter (λ revision. not (nat_eq revision.id id)) revisions

-- whether an id is below another, if there is one
abbrev pub is_before : Option ℕ → ℕ → Bool
is_before None id = true
is_before (Some after) id = nat_lt id after

-- the revisions with ids below another, if there is one
abbrev pub before_in : Option ℕ → List Revision → List Revision
before_in after revisions = filter (λ revision. is_before after revision.id) revisions

-- the revision with this id, if there is one, is there and the page's
abbrev pub IsOwn : ℕ → Option ℕ → List Revision → Type 0
IsOwn page None revisions = Unit {0}
IsOwn page (Some id) revisions =
    option_map (λ revision. revision.page) (revision_with id revisions) ≡ Some page

-- a revision as it is kept, with another one before it
abbrev pub led_to : Option ℕ → Kept → Kept
led_to previous kept = record kept { previous = previous }

-- the revisions without the last one of a page
abbrev pub without_latest : ℕ → List Revision → List Revision
without_latest page revisions = option_map_or (λ id. without id revisions)
    (latest_of page revisions) revisions

-- the ids rise from above this number
abbrev pub IdsRise : ℕ → List ℕ → Type 0
IdsRise low [] = Unit {0}
IdsRise low (id ∷ ids) = (low < id) × IdsRise id ids

-- The revisions by id, the newest of each page, the ids in their order and the weight stand for
-- these revisions.
pub record IsKept (stored : List (ℕ × Kept)) (newest : List (ℕ × ℕ)) (order : List ℕ) (weight : ℕ)
    (revisions : List Revision) : Type 0 where
  pub ids : map (λ revision. revision.id) revisions ≡ order
  pub found : (id : ℕ) →
      revision_with id revisions ≡ option_map (λ kept. kept.revision) (lookup (nat_eq id) stored)
  pub last : (page : ℕ) → lookup (nat_eq page) newest ≡ latest_of page revisions
  pub chained : (id : ℕ) → IfSome (lookup (nat_eq id) stored) (λ kept.
      kept.previous ≡ latest_of kept.revision.page (below id revisions))
  pub weighs : weight ≡ total_weight revisions
  pub rises : Rises 0 revisions

-- The same, where the ids in their order are those of the revisions.
abbrev pub IsChained : List (ℕ × Kept) → List (ℕ × ℕ) → ℕ → List Revision → Type 0
IsChained stored newest weight revisions =
    IsKept stored newest (map (λ revision. revision.id) revisions) weight revisions
