-- What a look-up in the rows says of the tree.
use Rattle.std.proofs.Common.{◌≡◌, ℕ, List, [], Option, Some, None, is_some, refl, sym, ap, ◌∙◌}
use Rattle.std.specs.Borrow.{Bor}
use Rattle.std.specs.Option.{option_copied, option_map}
use Rattle.page_tree.specs.Tree.{Forest, has_page}
use Rattle.page_tree.specs.Rows.{Row, rows_of, row_with}
use Rattle.page_tree.proofs.RowLemmas.{has_page-rows}
use Rattle.site_types.specs.declared.body.Body.{Body}
use Rattle.site_types.specs.declared.page_row.PageRow.{PageRow}
use Rattle.page_store.specs.PageRows.{page_row}

-- a row is found where the page is there
pub found_row : (found : Option (Bor PageRow)) (id : ℕ) (tree : Forest Body)
    (pages : List (Row Body)) → option_copied found ≡ option_map page_row (row_with id pages) →
    pages ≡ rows_of tree → is_some found ≡ has_page id tree
found_row found id tree pages is stands =
    same_sides found (row_with id pages) is
    ∙ (ap (λ rows. is_some (row_with id rows)) stands ∙ sym (has_page-rows id None [] [] tree))
  where
    same_sides : (a : Option (Bor PageRow)) (b : Option (Row Body)) →
        option_copied a ≡ option_map page_row b → is_some a ≡ is_some b
    same_sides None None h = refl
    same_sides (Some x) (Some y) h = refl
    same_sides None (Some y) h = absurd (cc)
    same_sides (Some x) None h = absurd (cc)
