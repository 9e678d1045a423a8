-- What a page plans, read off the rows alone: the new URLs, and the page that has the slug.
use Rattle.std.specs.Prelude.{ℕ, ◌==◌, nat_le, Option, Some, None, if◌then◌else◌, List, [], ◌∷◌, ◌++◌, length, drop, map}
use Rattle.std.specs.Str.{bytes_eq}
use Rattle.page_tree.specs.Rows.{row_with, kid_named}
use Rattle.tree_model.specs.Limits.{MAX_URL}
use Rattle.tree_rows.specs.Subtree.{subtree_rows}
use Rattle.page_store.specs.Pages.{Page}
use Rattle.slug_urls.specs.Plans.{is_one_long}

-- a page with its URL, of which `new` takes the place of the first `old` bytes
abbrev pub moved_from : ℕ → List ℕ → Page → ℕ × List ℕ
moved_from old new row = (row.id, new ++ drop old row.url)

-- the new URLs of a page and of all below it, of which there are none where its own URL stays
abbrev pub urls_from : Page → List ℕ → List Page → List (ℕ × List ℕ)
urls_from top new pages =
    if bytes_eq top.url new
    then []
    else map (moved_from (length top.url) new) (subtree_rows top.path pages)

-- the new URLs, where the page has this row; a page that is not there is alone
abbrev pub urls_of_row : Option Page → ℕ → List ℕ → List Page → List (ℕ × List ℕ)
urls_of_row None page new pages = (page, new) ∷ []
urls_of_row (Some top) page new pages = urls_from top new pages

-- the new URLs of a page that gets this URL, and of those below it
abbrev pub row_urls : ℕ → List ℕ → List Page → List (ℕ × List ℕ)
row_urls page new pages = urls_of_row (row_with page pages) page new pages

-- a kid other than the page
abbrev pub other_kid : ℕ → Option ℕ → Option ℕ
other_kid page None = None
other_kid page (Some kid) = if kid == page then None else Some kid

-- the kid of the parent, other than the page, that has the slug
abbrev pub taken_by : ℕ → ℕ → List ℕ → List Page → Option ℕ
taken_by page parent slug pages = other_kid page (kid_named parent slug pages)

-- the URL where it fits
abbrev pub if_fits : List ℕ → Option (List ℕ)
if_fits url = if nat_le (length url) MAX_URL then Some url else None

-- the list where each URL in it fits
abbrev pub if_all_fit : List (ℕ × List ℕ) → Option (List (ℕ × List ℕ))
if_all_fit urls = if is_one_long urls then None else Some urls
