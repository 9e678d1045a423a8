-- What a look-up in the rows says of the tree.
use Rattle.std.proofs.Common.{◌≡◌, ℕ, List, [], None, is_some, sym, ap, ◌∙◌}
use Rattle.page_tree.specs.Tree.{Forest, has_page}
use Rattle.page_tree.specs.Rows.{Row, rows_of, row_with}
use Rattle.page_tree.proofs.RowLemmas.{has_page-rows}
use Rattle.site_types.specs.declared.body.Body.{Body}

-- a row is there where the page is
pub row_there : (id : ℕ) (tree : Forest Body) (pages : List (Row Body)) → pages ≡ rows_of tree →
    is_some (row_with id pages) ≡ has_page id tree
row_there id tree pages stands =
    ap (λ rows. is_some (row_with id rows)) stands ∙ sym (has_page-rows id None [] [] tree)
