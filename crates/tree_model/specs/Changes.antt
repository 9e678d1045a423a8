-- What changes from the rows of one tree to those of the next: the pages whose path, or whose URL,
-- is another one.
use Rattle.std.specs.Prelude.{ℕ, nat_eq, not, List, [], map, filter, unwrap_or}
use Rattle.std.specs.Option.{option_map}
use Rattle.std.specs.Str.{bytes_eq}
use Rattle.std.specs.Map.{lookup}
use Rattle.page_tree.specs.Rows.{Row, row_with}

module _ {Body : Type 0} where
  -- the path of a page among the rows, or no step where there is no such page
  abbrev pub path_in : ℕ → List (Row Body) → List ℕ
  path_in id rows = unwrap_or (option_map (λ row. row.path) (row_with id rows)) []

  -- the URL of a page among the rows, or no byte where there is no such page
  abbrev pub url_in : ℕ → List (Row Body) → List ℕ
  url_in id rows = unwrap_or (option_map (λ row. row.url) (row_with id rows)) []

  -- The pages whose path changes, each with its new one, in the order of the later rows.
  abbrev pub changed_paths : List (Row Body) → List (Row Body) → List (ℕ × List ℕ)
  changed_paths before after =
      map (λ row. (row.id, row.path))
      (filter (λ row. not (bytes_eq (path_in row.id before) row.path)) after)

  -- The pages whose URL changes, each with its new one, in the order of the later rows.
  abbrev pub changed_urls : List (Row Body) → List (Row Body) → List (ℕ × List ℕ)
  changed_urls before after =
      map (λ row. (row.id, row.url))
      (filter (λ row. not (bytes_eq (url_in row.id before) row.url)) after)

  -- the row with this URL
  abbrev pub with_url : List ℕ → Row Body → Row Body
  with_url url row = record row { url = url }

  -- the later rows, where a page that is not listed has the URL that it had before
  abbrev pub with_urls : List (ℕ × List ℕ) → List (Row Body) → List (Row Body) → List (Row Body)
  with_urls urls before after =
      map (λ row. with_url (unwrap_or (lookup (nat_eq row.id) urls) (url_in row.id before)) row) after
