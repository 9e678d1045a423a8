-- One step of a purge: what comes of the page's last revision that has not been looked at.
use Rattle.std.specs.Prelude.{ℕ, Bool, nat_eq, if◌then◌else◌, Option, Some, None, List}
use Rattle.std.specs.List.{list_any}
use Rattle.site_types.specs.declared.revision.Revision.{Revision}
use Rattle.revision_shelf.specs.Kept.{without}

-- the id with this number, where 0 is none
abbrev pub named : ℕ → Option ℕ
named number = if nat_eq number 0 then None else Some number

-- whether an id is one of these
abbrev pub is_among : List ℕ → ℕ → Bool
is_among keep id = list_any (λ number. nat_eq number id) keep

-- the last id that is kept: this one, if it is one to keep
abbrev pub step_after : List ℕ → Option ℕ → ℕ → ℕ
step_after keep None after = after
step_after keep (Some id) after = if is_among keep id then id else after

-- how many go
abbrev pub step_count : List ℕ → Option ℕ → ℕ
step_count keep None = 0
step_count keep (Some id) = if is_among keep id then 0 else 1

-- the revisions that are left
abbrev pub step_left : List ℕ → Option ℕ → List Revision → List Revision
step_left keep None revisions = revisions
step_left keep (Some id) revisions = if is_among keep id then revisions else without id revisions
