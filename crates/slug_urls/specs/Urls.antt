-- The URLs of pages, read off the rows of a tree: the root's is `/`, and any other page's is its
-- parent's followed by its slug and `/`.
use Rattle.std.specs.Prelude.{◌≡◌, ℕ, Option, Some, None, IsSome, List, [], find}
use Rattle.std.specs.Option.{option_map, option_map_or}
use Rattle.std.specs.List.{AllByRecursion}
use Rattle.std.specs.Str.{bytes_eq}
use Rattle.page_tree.specs.Rows.{child_url, row_with}
use Rattle.site_ids.specs.Slug.{IsSlug}
use Rattle.page_store.specs.Pages.{Page}

-- the URL of the page with the id, and nothing where there is none
abbrev pub url_above : Option ℕ → List Page → List ℕ
url_above None pages = []
url_above (Some id) pages = option_map_or (λ row. row.url) (row_with id pages) []

-- a row's URL is that of the page above it, its slug and `/`
abbrev pub HasUrl : List Page → Page → Type 0
HasUrl pages row = row.url ≡ child_url (url_above row.parent pages) row.slug

-- each page below another has a slug
abbrev pub HaveSlugs : List Page → Type 0
HaveSlugs pages = AllByRecursion (λ row. IsSome row.parent → IsSlug row.slug) pages

-- the page with the URL
abbrev pub page_at : List ℕ → List Page → Option ℕ
page_at url pages = option_map (λ row. row.id) (find (λ row. bytes_eq row.url url) pages)
