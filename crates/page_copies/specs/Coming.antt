-- The rows of pages that come, as they are put in one after the other.
use Rattle.std.specs.Prelude.{ℕ, List, map}
use Rattle.site_types.specs.declared.page_row.PageRow.{PageRow}
use Rattle.page_store.specs.PageRows.{page_row}
use Rattle.page_store.specs.Pages.{Page}

-- the row of a page as it comes, without kids, with its URL
abbrev pub coming_row : Page → PageRow × List ℕ
coming_row row = (record (page_row row) { numchild = 0 }, row.url)

-- these rows, as their pages come
abbrev pub coming_rows : List Page → List (PageRow × List ℕ)
coming_rows rows = map coming_row rows
