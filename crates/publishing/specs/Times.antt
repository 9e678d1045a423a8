-- The two time tables of a site in step with its pages and revisions.
use Rattle.std.specs.Prelude.{◌≡◌, ℕ, nat_eq, List, [], ◌∷◌, Option, None, if◌then◌else◌}
use Rattle.std.specs.List.{list_any}
use Rattle.std.specs.Option.{option_map, option_and_then}
use Rattle.page_tree.specs.Rows.{row_with}
use Rattle.site_types.specs.declared.body.Body.{Body}
use Rattle.site_types.specs.declared.revision.Revision.{Revision}
use Rattle.page_store.specs.Pages.{Page}
use Rattle.revision_shelf.specs.Shelf.{revision_with}
use Rattle.time_table.specs.Table.{moment_in, without}
use Rattle.time_table.specs.declared.times.Times.{Times}

-- what is kept of a page, where it is there
abbrev pub body_in : ℕ → List Page → Option Body
body_in page pages = option_map (λ row. row.body) (row_with page pages)

-- the revision that a page names, where it names one that is there
abbrev pub named : List Revision → Option ℕ → Option Revision
named revisions id = option_and_then (λ one. revision_with one revisions) id

-- when a page stops being live: the expiry of the revision that it shows, if the page is live. An
-- alias is never live by what is kept of it.
abbrev pub expiry_of : List Revision → Body → Option ℕ
expiry_of revisions body =
    if body.live
    then option_and_then (λ revision. revision.expire) (named revisions body.shown)
    else None

-- when the scheduled revision of a page goes live
abbrev pub go_live_of : List Revision → Body → Option ℕ
go_live_of revisions body =
    option_and_then (λ revision. revision.go_live) (named revisions body.scheduled)

-- The tables of these pages and revisions: one has the expiry of each page that has one, the other
-- the go-live of each.
pub record AreTimed (times : Times) (pages : List Page) (revisions : List Revision) : Type 0 where
  pub expiries : (page : ℕ) → moment_in times.expiries.entries page
      ≡ option_and_then (expiry_of revisions) (body_in page pages)
  pub go_lives : (page : ℕ) → moment_in times.go_lives.entries page
      ≡ option_and_then (go_live_of revisions) (body_in page pages)

-- the pairs of all pages but these
abbrev pub without_all : List ℕ → List (ℕ × ℕ) → List (ℕ × ℕ)
without_all [] entries = entries
without_all (page ∷ pages) entries = without_all pages (without page entries)

-- The pages that are left where these go: each other page keeps what is kept of it.
abbrev pub AreLeft : List ℕ → List Page → List Page → Type 0
AreLeft gone pages after =
    (page : ℕ) →
    body_in page after
    ≡ (if list_any (λ id. nat_eq id page) gone then None else body_in page pages)
