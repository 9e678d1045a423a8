-- Which pages link to which, by rows and revisions: a regular page by its latest content and, if it
-- is live, by the one that it shows; an alias by what its source shows, if that is live.
use Rattle.std.specs.Prelude.{◌≡◌, ℕ, Bool, false, ◌||◌, if◌then◌else◌, List, Option, Some, None}
use Rattle.std.specs.Option.{option_map, option_and_then}
use Rattle.site_types.specs.Content.{ContentValue}
use Rattle.site_types.specs.declared.body.Body.{Body}
use Rattle.site_types.specs.declared.revision.Revision.{Revision}
use Rattle.site_model.specs.Bodies.{same_number}
use Rattle.site_model.specs.Links.{links_in}
use Rattle.page_store.specs.Pages.{Page}
use Rattle.publishing.specs.Times.{body_in, named}
use Rattle.link_index.specs.Pairs.{has_pair}

-- Where contents and pages are found: the content of the revision that is named, and what is kept
-- of a page.
pub record Finds : Type 0 where
  pub content : Option ℕ → Option ContentValue
  pub body : ℕ → Option Body

-- the content of the revision that is named, if it is there
abbrev pub content_in : List Revision → Option ℕ → Option ContentValue
content_in revisions id = option_map (λ revision. revision.content) (named revisions id)

-- what is found among rows and revisions
abbrev pub finds_in : List Page → List Revision → Finds
finds_in pages revisions =
    record { content = content_in revisions; body = λ page. body_in page pages }

-- the revision that a regular page shows, if it is live
abbrev pub live_revision : Option Body → Option ℕ
live_revision None = None
live_revision (Some body) = if body.live then body.shown else None

-- whether what a live regular page shows links to the page with this id
abbrev pub live_links : Finds → Option Body → ℕ → Bool
live_links finds body id = links_in (finds.content (live_revision body)) id

-- whether a page of which this is kept links to the page with this id
abbrev pub body_links : Finds → Body → ℕ → Bool
body_links finds body id = links body.source
  where
    links : Option ℕ → Bool
    links None = links_in (finds.content body.latest) id || live_links finds (Some body) id
    links (Some source) = live_links finds (finds.body source) id

-- whether a page of which this is kept, if it is there, links to the page with this id
abbrev pub kept_links : Finds → Option Body → ℕ → Bool
kept_links finds None id = false
kept_links finds (Some body) id = body_links finds body id

-- whether a page links to the page with this id
abbrev pub page_links : List Page → List Revision → ℕ → ℕ → Bool
page_links pages revisions page id =
    kept_links (finds_in pages revisions) (body_in page pages) id

-- the pairs of a page that is linked to and of the one that links to it
abbrev pub AreLinked : List (ℕ × ℕ) → List Page → List Revision → Type 0
AreLinked pairs pages revisions =
    (linked page : ℕ) → has_pair linked page pairs ≡ page_links pages revisions page linked

-- the source of a page, where the page is there and is an alias
abbrev pub source_in : ℕ → List Page → Option ℕ
source_in page pages = option_and_then (λ body. body.source) (body_in page pages)

-- the pairs are those of each alias and its source
abbrev pub AreAliases : List (ℕ × ℕ) → List Page → Type 0
AreAliases pairs pages =
    (source alias : ℕ) →
    has_pair source alias pairs ≡ same_number (source_in alias pages) (Some source)
