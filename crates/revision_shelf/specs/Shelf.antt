-- What the shelf is seen as: the revisions of all pages, rising by id.
use Rattle.std.specs.Prelude.{ℕ, ◌+◌, ◌<◌, ◌≤◌, Bool, not, ◌||◌, nat_eq, if◌then◌else◌, Option, Some, None, List, [], ◌∷◌, length, find, filter}
use Rattle.std.specs.List.{list_any}
use Rattle.std.specs.Option.{option_or}
use Rattle.site_types.specs.Content.{content_form}
use Rattle.site_types.specs.declared.revision.Revision.{Revision}
use Rattle.site_types.specs.declared.limits.TheConstants.{MAX_CONTENT_BYTES}
use Rattle.site_types.specs.Ids.{IsRevisionId}

-- The revisions, and how many more can be put in without taking memory.
pub record RevisionList : Type 0 where
  pub revisions : List Revision
  pub spare : ℕ

-- the length of the byte form of a revision's content
abbrev pub weight_of : Revision → ℕ
weight_of revision = length (content_form revision.content)

-- the sum of these lengths
abbrev pub total_weight : List Revision → ℕ
total_weight [] = 0
total_weight (revision ∷ revisions) = weight_of revision + total_weight revisions

-- the revision with this id
abbrev pub revision_with : ℕ → List Revision → Option Revision
revision_with id revisions = find (λ revision. nat_eq revision.id id) revisions

-- the id of the last revision of a page, which is the greatest of them where the ids rise
abbrev pub latest_of : ℕ → List Revision → Option ℕ
latest_of page [] = None
latest_of page (revision ∷ revisions) =
    option_or (latest_of page revisions) (if nat_eq revision.page page then Some revision.id else None)

-- the revisions of all other pages
abbrev pub without_page : ℕ → List Revision → List Revision
without_page page revisions = filter (λ revision. not (nat_eq revision.page page)) revisions

-- the revisions of all pages but these
abbrev pub without_pages : List ℕ → List Revision → List Revision
without_pages pages revisions =
    filter (λ revision. not (list_any (λ page. nat_eq page revision.page) pages)) revisions

-- whether a revision stays where a page's are purged: it is another page's, or its id is one to keep
abbrev pub is_kept : ℕ → List ℕ → Revision → Bool
is_kept page keep revision =
    not (nat_eq revision.page page) || list_any (λ id. nat_eq id revision.id) keep

-- the revisions that stay where a page's are purged
abbrev pub purged : ℕ → List ℕ → List Revision → List Revision
purged page keep revisions = filter (is_kept page keep) revisions

-- the ids rise from above this number to the last one there is, and each content is within its limit
abbrev pub Rises : ℕ → List Revision → Type 0
Rises low [] = Unit {0}
Rises low (revision ∷ revisions) =
    (low < revision.id)
    × IsRevisionId revision.id
    × (weight_of revision ≤ MAX_CONTENT_BYTES)
    × Rises revision.id revisions
