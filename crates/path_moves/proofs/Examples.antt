-- The definitions at worked values.
use Rattle.std.proofs.Common.{◌≡◌, ℕ, List, [], ◌∷◌, Some, Ok, Err, refl, codes}
use Rattle.page_tree.specs.Tree.{Forest, bare, grown, End, without, moved}
use Rattle.page_tree.specs.Rows.{Row, rows_of, raise_count}
use Rattle.path_moves.specs.declared.fault.PathFault.TheVariants.{StepsFull}
use Rattle.path_moves.specs.Append.{appended_path}
use Rattle.tree_rows.specs.Subtree.{subtree_rows}
use Rattle.tree_rows.specs.Cuts.{cut_rows, moved_rows, put_behind}

-- a page without children and the siblings after it; its id is all that is kept of it
abbrev leaf : ℕ → ℕ → List ℕ → Forest ℕ → Forest ℕ
leaf id step slug rest = grown id step slug id bare rest

-- page 2, a, with page 3, b, below it, and page 4, c, at step 3, all below the root
abbrev three_pages : Forest ℕ
three_pages = grown 1 1 [] 1
    (grown 2 1 (codes "a") 2 (leaf 3 1 (codes "b") bare) (leaf 4 3 (codes "c") bare)) bare

-- a page appended below the root goes behind page 4, and a hole before that one stays
appended_below_root : appended_path 1 three_pages ≡ Ok (1 ∷ 4 ∷ [])
appended_below_root = refl

-- and below page 3, which has no kids, it takes step 1
appended_below_leaf : appended_path 3 three_pages ≡ Ok (1 ∷ 1 ∷ 1 ∷ 1 ∷ [])
appended_below_leaf = refl

-- behind the greatest step there is none
none_behind_last : appended_path 1 (grown 1 1 [] 1 (leaf 2 1679615 (codes "a") bare) bare)
    ≡ Err StepsFull
none_behind_last = refl

-- the row of page 2
abbrev row_of_a : Row ℕ
row_of_a = record {
  id = 2;
  parent = Some 1;
  path = 1 ∷ 1 ∷ [];
  url = codes "/a/";
  slug = codes "a";
  numchild = 1;
  body = 2;
}

-- the row of page 4
abbrev row_of_c : Row ℕ
row_of_c = record {
  id = 4;
  parent = Some 1;
  path = 1 ∷ 3 ∷ [];
  url = codes "/c/";
  slug = codes "c";
  numchild = 0;
  body = 4;
}

-- what is left where page 2 goes
cut_a : rows_of (without 2 three_pages) ≡ cut_rows row_of_a (rows_of three_pages)
cut_a = refl

-- page 2 moved below page 4: its rows, and those below, have the beginning of their paths replaced
moved_below_c : rows_of (moved 2 4 End three_pages)
    ≡ put_behind (1 ∷ 3 ∷ []) (moved_rows 4 (1 ∷ 3 ∷ 1 ∷ []) (codes "/c/a/")
    (subtree_rows (1 ∷ 1 ∷ []) (rows_of three_pages)))
    (raise_count (Some 4) (cut_rows row_of_a (rows_of three_pages)))
moved_below_c = refl
