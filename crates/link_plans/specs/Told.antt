-- What a change tells of the pages after it: what is kept of each, the content of each revision,
-- and which pages it links to.
use Rattle.std.specs.Prelude.{◌≡◌, ℕ, ◌+◌, Bool, nat_eq, if◌then◌else◌, List, [], ◌∷◌, ◌++◌, map, length, Option, Some, None, IsSome}
use Rattle.std.specs.List.{list_any}
use Rattle.std.specs.Option.{IfSome, option_map, option_map_or, option_or}
use Rattle.page_tree.specs.Rows.{row_with}
use Rattle.site_types.specs.Content.{ContentValue}
use Rattle.site_types.specs.declared.body.Body.{Body}
use Rattle.site_types.specs.declared.page_row.PageRow.{PageRow}
use Rattle.site_types.specs.declared.revision.Revision.{Revision}
use Rattle.page_store.specs.Pages.{Page}
use Rattle.revision_shelf.specs.Shelf.{revision_with}
use Rattle.publishing.specs.Times.{body_in, named}
use Rattle.flat_model.specs.Made.{with_bodies, rows_made, subtree, revisions_left, purge_left}
use Rattle.flat_model.specs.declared.change.Change.{Change}
use Rattle.flat_model.specs.declared.change.TreeChange.{TreeChange}
use Rattle.flat_model.specs.declared.change.TreeChange.TheVariants as trees
use Rattle.link_plans.specs.PageLinks.{Finds, content_in, page_links}
use Rattle.link_plans.specs.declared.fates.Fate.{Fate}

-- the rows of pages after a change
abbrev pub pages_made : Change → List Page → List Page
pages_made change pages = with_bodies change.bodies (rows_made change.tree pages)

-- the revisions after a change
abbrev pub revisions_made : Change → List Revision → List Revision
revisions_made change revisions =
    purge_left change.purge (revisions_left change.gone revisions) ++ change.revisions

-- a page with these fields from now on, or without any
abbrev pub fate : ℕ → Option Body → Fate
fate page body = record { page = page; body = body }

-- the ids of a page and of all below it, depth first; none if there is no such page
abbrev pub gone_with : ℕ → List Page → List ℕ
gone_with page pages =
    option_map_or (λ top. map (λ row. row.id) (subtree top.path pages)) (row_with page pages) []

-- pages that go
abbrev pub gone_fates : List ℕ → List Fate
gone_fates pages = map (λ page. fate page None) pages

-- what becomes of pages that come or go by a change of the rows
abbrev pub row_fates : TreeChange → List Page → List Fate
row_fates trees.Nothing pages = []
row_fates (trees.Insert new) pages =
    map (λ (row : PageRow × List ℕ). fate row.0.id (Some row.0.body)) new
row_fates (trees.Move plan urls) pages = []
row_fates (trees.Delete page) pages = gone_fates (gone_with page pages)
row_fates (trees.Rename page slug urls) pages = []

-- what becomes of pages by a change, one after another: they come or go, or get other fields
abbrev pub fates_of : Change → List Page → List Fate
fates_of change pages =
    row_fates change.tree pages
    ++ map (λ (one : ℕ × Body). fate one.0 (Some one.1)) change.bodies

-- what is kept of a page after these, where this was kept of it before
abbrev pub body_told : List Fate → ℕ → Option Body → Option Body
body_told [] page was = was
body_told (one ∷ more) page was =
    body_told more page (if nat_eq page one.page then one.body else was)

-- the revision that is named, among those that come and those that were there
abbrev pub named_told : List Revision → List Revision → Option ℕ → Option Revision
named_told new revisions id = option_or (named new id) (named revisions id)

-- its content
abbrev pub content_told : List Revision → List Revision → Option ℕ → Option ContentValue
content_told new revisions id =
    option_map (λ revision. revision.content) (named_told new revisions id)

-- where contents and pages are found after a change
abbrev pub finds_told : List Page → List Revision → List Revision → List Fate → Finds
finds_told pages revisions new fates =
    record {
      content = content_told new revisions;
      body = λ page. body_told fates page (body_in page pages);
    }

-- A page with these fields has the same contents by either.
pub record SameContents (one other : Option ℕ → Option ContentValue) (body : Body) : Type 0 where
  pub latest : one body.latest ≡ other body.latest
  pub shown : one body.shown ≡ other body.shown

-- A change tells all of the pages after it: what is kept of each; no revision that comes has the id
-- of one that a page before it has; and none that a page after it has goes.
pub record TellsPages (pages : List Page) (revisions : List Revision) (change : Change) :
    Type 0 where
  pub bodies : (page : ℕ) → body_in page (pages_made change pages)
      ≡ body_told (fates_of change pages) page (body_in page pages)
  pub before : (page : ℕ) → IfSome (body_in page pages)
      (SameContents (content_told change.revisions revisions) (content_in revisions))
  pub after : (page : ℕ) → IfSome (body_in page (pages_made change pages))
      (SameContents (content_told change.revisions revisions)
      (content_in (revisions_made change revisions)))

-- The revisions that a page with these fields has as its latest and shown one are there.
pub record NamesThere (revisions : List Revision) (body : Body) : Type 0 where
  pub latest : IfSome body.latest (λ id. IsSome (revision_with id revisions))
  pub shown : IfSome body.shown (λ id. IsSome (revision_with id revisions))

-- the revisions that pages have as their latest and shown ones are there
abbrev pub AllNamed : List Page → List Revision → Type 0
AllNamed pages revisions = (page : ℕ) → IfSome (body_in page pages) (NamesThere revisions)

-- a change of the rows takes out the pages that go, and puts in those that come; all others keep
-- what is kept of them
abbrev pub AreRowsTold : TreeChange → List Page → Type 0
AreRowsTold change pages =
    (page : ℕ) →
    body_in page (rows_made change pages)
    ≡ body_told (row_fates change pages) page (body_in page pages)

-- whether a page links to the page with this id after pages got other links, one after another
abbrev pub links_told : List (ℕ × List ℕ) → ℕ → ℕ → Bool → Bool
links_told [] page linked was = was
links_told (one ∷ more) page linked was =
    links_told more page linked (if nat_eq page one.0 then list_any (nat_eq linked) one.1 else was)

-- Pages with the links that they get: with these, and with the links of all other pages as they
-- were, each page links to what it links to after the change.
abbrev pub AreLinksAfter : List Page → List Revision → Change → List (ℕ × List ℕ) → Type 0
AreLinksAfter pages revisions change planned =
    (page linked : ℕ) →
    links_told planned page linked (page_links pages revisions page linked)
    ≡ page_links (pages_made change pages) (revisions_made change revisions) page linked

-- these ids are those that a test passes
abbrev pub AreThose : (ℕ → Bool) → List ℕ → Type 0
AreThose test ids = (id : ℕ) → list_any (nat_eq id) ids ≡ test id

-- how many links these pages get together
abbrev pub total_links : List (ℕ × List ℕ) → ℕ
total_links [] = 0
total_links (one ∷ more) = length one.1 + total_links more
