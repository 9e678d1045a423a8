-- Revisions that rise, and what stands at a place among them, if it is what was looked for.
use Rattle.std.specs.Prelude.{ℕ, nat_eq, if◌then◌else◌, List, [], ◌∷◌, Option, Some, None}
use Rattle.site_types.specs.declared.revision.Revision.{Revision}
use Rattle.site_model.specs.Sound.{IdsRise}

-- the ids of these revisions rise
abbrev pub RevisionsRise : List Revision → Type 0
RevisionsRise [] = Unit {0}
RevisionsRise (revision ∷ revisions) = IdsRise revision.id revisions

-- a revision with this id, and no other
abbrev pub if_own : ℕ → Option Revision → Option Revision
if_own id None = None
if_own id (Some revision) = if nat_eq revision.id id then Some revision else None
