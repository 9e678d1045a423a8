-- Which pages are live, as the rows say it.
use Rattle.std.specs.Prelude.{ℕ, Bool, false, List, Option, Some, None}
use Rattle.std.specs.Option.{option_map_or}
use Rattle.page_tree.specs.Rows.{row_with}
use Rattle.site_types.specs.declared.body.Body.{Body}
use Rattle.page_store.specs.Pages.{Page}

-- whether a page has a row that is live
abbrev pub is_public_in : List Page → ℕ → Bool
is_public_in pages id = option_map_or (λ row. row.body.live) (row_with id pages) false

-- whether a page of which this is kept is live: an alias is live if its source is
abbrev pub is_live_in : List Page → Body → Bool
is_live_in pages body = shows body.source
  where
    shows : Option ℕ → Bool
    shows None = body.live
    shows (Some source) = is_public_in pages source
