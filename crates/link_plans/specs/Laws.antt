-- Laws of links, each proved in src/laws.rt.
use Rattle.std.specs.Prelude.{◌≡◌, ℕ, List}
use Rattle.page_tree.specs.Rows.{rows_of}
use Rattle.site_types.specs.declared.page_row.PageRow.{PageRow}
use Rattle.site_types.specs.declared.revision.Revision.{Revision}
use Rattle.site_model.specs.World.{TreePart}
use Rattle.site_model.specs.Links.{page_links_to, refs_of}
use Rattle.site_model.specs.Sound.{IdsRise}
use Rattle.page_store.specs.Pages.{Page, ArePages}
use Rattle.publishing.specs.Times.{body_in}
use Rattle.flat_model.specs.Fits.{PagesFit, BodiesFit, RevisionsFit}
use Rattle.flat_model.specs.Made.{with_pages, rows_made}
use Rattle.flat_model.specs.declared.change.Change.{Change}
use Rattle.flat_model.specs.declared.change.TreeChange.TheVariants.{Insert}
use Rattle.link_index.specs.Pairs.{PairsRise, seconds_of}
use Rattle.link_plans.specs.PageLinks.{page_links, AreLinked}
use Rattle.link_plans.specs.Told.{AllNamed, AreRowsTold, TellsPages, body_told, row_fates, pages_made, revisions_made}

-- by its rows and revisions a world's page links to the pages that it links to
abbrev pub RowsHaveLinks : Type 0
RowsHaveLinks =
    (part : TreePart) (page linked : ℕ) →
    page_links (rows_of part.tree) part.revisions page linked ≡ page_links_to part page linked

-- pairs that rise and are in step with a world's rows and revisions have the pages that link to a
-- page
abbrev pub PairsHaveRefs : Type 0
PairsHaveRefs =
    (part : TreePart) (pairs : List (ℕ × ℕ)) (id : ℕ) → ArePages (rows_of part.tree) →
    PairsRise pairs → AreLinked pairs (rows_of part.tree) part.revisions →
    seconds_of id pairs ≡ refs_of part id

-- a change that fits tells all of the pages after it, if before it and after it the revisions that
-- pages have as their latest and shown ones are there
abbrev pub ChangeTells : Type 0
ChangeTells =
    (pages : List Page) (revisions : List Revision) (change : Change) → IdsRise 0 revisions →
    RevisionsFit change.revisions revisions →
    BodiesFit change.bodies (rows_made change.tree pages) → AreRowsTold change.tree pages →
    AllNamed pages revisions →
    AllNamed (pages_made change pages) (revisions_made change revisions) →
    TellsPages pages revisions change

-- rows that come one after another are told
abbrev pub NewRowsAreTold : Type 0
NewRowsAreTold =
    (new : List (PageRow × List ℕ)) (pages : List Page) → PagesFit new pages → (page : ℕ) →
    body_in page (with_pages new pages) ≡ body_told (row_fates (Insert new) pages) page (body_in page pages)
