-- Where a key stands in a list that rises by its keys, and what a search for it tells.
use Rattle.std.specs.Prelude.{ℕ, suc, Bool, false, List, [], ◌∷◌, Option, Some, None, Result, Ok, Err, if◌then◌else◌}
use Rattle.std.specs.List.{list_any}
use Rattle.page_tree.specs.Rows.{comes_before}

module _ {Item : Type 0} where
  -- how many items stand before the first whose key does not come before this one
  abbrev pub place_of : (Item → List ℕ) → List ℕ → List Item → ℕ
  place_of key wanted [] = 0
  place_of key wanted (item ∷ items) =
      if comes_before (key item) wanted then suc (place_of key wanted items) else 0

  -- the place of the item that passes the test, or the place that one with this key would take
  abbrev pub search_told : (Item → List ℕ) → List ℕ → (Item → Bool) → List Item → Result ℕ ℕ
  search_told key wanted test items =
      if list_any test items then Ok (place_of key wanted items) else Err (place_of key wanted items)

  -- whether there is an item that passes the test
  abbrev pub passes : (Item → Bool) → Option Item → Bool
  passes test None = false
  passes test (Some item) = test item
