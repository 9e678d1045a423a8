-- Laws of time tables beside pages and revisions, each proved in src/laws.rt: what keeps the tables
-- in step without a change to them.
use Rattle.std.specs.Prelude.{◌≡◌, ℕ, Bool, true, false, ◌||◌, List, [], ◌++◌, filter, Some, None, ◌⊎◌}
use Rattle.std.specs.List.{AllByRecursion}
use Rattle.std.specs.Option.{IfSome}
use Rattle.page_tree.specs.Rows.{row_with, with_row}
use Rattle.site_types.specs.declared.body.Body.{Body}
use Rattle.site_types.specs.declared.revision.Revision.{Revision}
use Rattle.site_model.specs.Bodies.{same_number}
use Rattle.page_store.specs.Pages.{Page}
use Rattle.revision_shelf.specs.Shelf.{revision_with}
use Rattle.time_table.specs.declared.times.Times.{Times}
use Rattle.publishing.specs.Times.{body_in, named, AreTimed}

-- whether a page shows the revision or has it scheduled
abbrev pub is_timed_by : ℕ → Body → Bool
is_timed_by id body = same_number body.shown (Some id) || same_number body.scheduled (Some id)

-- a page that is neither live nor scheduled
abbrev pub IsUntimed : Body → Type 0
IsUntimed body = (body.live ≡ false) × (body.scheduled ≡ None)

-- The page with this number shows the same revision of both lists, and has the same one scheduled.
abbrev pub NamesSame : List Revision → List Revision → Body → Type 0
NamesSame revisions after body =
    (named after body.shown ≡ named revisions body.shown)
    × (named after body.scheduled ≡ named revisions body.scheduled)

-- tables stay in step with other revisions, where each page names the same ones
abbrev pub RevisionsChange : Type 0
RevisionsChange =
    (times : Times) (pages : List Page) (revisions after : List Revision) →
    AreTimed times pages revisions →
    ((page : ℕ) → IfSome (body_in page pages) (NamesSame revisions after)) →
    AreTimed times pages after

-- tables stay in step when revisions come that no page shows or has scheduled
abbrev pub RevisionsCome : Type 0
RevisionsCome =
    (times : Times) (pages : List Page) (revisions new : List Revision) →
    AreTimed times pages revisions →
    AllByRecursion (λ (revision : Revision). (page : ℕ) →
    IfSome (body_in page pages) (λ body. is_timed_by revision.id body ≡ false)) new →
    AreTimed times pages (revisions ++ new)

-- tables stay in step when revisions go that no page shows or has scheduled
abbrev pub RevisionsGo : Type 0
RevisionsGo =
    (times : Times) (pages : List Page) (revisions : List Revision) (stays : Revision → Bool) →
    AreTimed times pages revisions →
    ((page id : ℕ) → IfSome (body_in page pages) (λ body. is_timed_by id body ≡ true →
    IfSome (revision_with id revisions) (λ revision. stays revision ≡ true))) →
    AreTimed times pages (filter stays revisions)

-- tables stay in step with other rows, where each page that was there keeps what is kept of it, and
-- each that comes is neither live nor scheduled
abbrev pub PagesChange : Type 0
PagesChange =
    (times : Times) (pages after : List Page) (revisions : List Revision) →
    AreTimed times pages revisions →
    ((page : ℕ) → (body_in page after ≡ body_in page pages)
    ⊎ ((body_in page pages ≡ None) × IfSome (body_in page after) IsUntimed)) →
    AreTimed times after revisions

-- tables stay in step when a page comes that is neither live nor scheduled and was not there
abbrev pub PageComes : Type 0
PageComes =
    (times : Times) (new : Page) (pages : List Page) (revisions : List Revision) →
    AreTimed times pages revisions → row_with new.id pages ≡ None → IsUntimed new.body →
    AreTimed times (with_row new pages) revisions

-- tables stay in step when pages move or get other paths, URLs, slugs and child counts
abbrev pub PagesMove : Type 0
PagesMove =
    (times : Times) (pages after : List Page) (revisions : List Revision) →
    AreTimed times pages revisions →
    ((page : ℕ) → body_in page after ≡ body_in page pages) →
    AreTimed times after revisions

-- tables without moments are those of pages that are neither live nor scheduled
abbrev pub TablesStart : Type 0
TablesStart =
    (times : Times) (pages : List Page) (revisions : List Revision) →
    times.expiries.entries ≡ [] → times.go_lives.entries ≡ [] →
    ((page : ℕ) → IfSome (body_in page pages) IsUntimed) →
    AreTimed times pages revisions
