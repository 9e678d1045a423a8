-- The definitions at worked values: trees of a few pages, and what becomes of them. The values were
-- reckoned by hand.
use Rattle.std.proofs.Common.{◌≡◌, ℕ, ◌+◌, List, [], ◌∷◌, ◌++◌, Some, map, refl, codes, true, false}
use Rattle.std.specs.List.{flat_map}
use Rattle.page_tree.specs.Tree.{Forest, bare, grown, Place, First, Before, End, has_page, node_of, without, put, moved, graft}
use Rattle.page_tree.specs.Walk.{path_of, url_of, depth_of}
use Rattle.page_tree.specs.Rows.{Row, row_with, rows_of}

-- a page without children and the siblings after it; its id is all that is kept of it
abbrev leaf : ℕ → ℕ → List ℕ → Forest ℕ → Forest ℕ
leaf id step slug rest = grown id step slug id bare rest

-- page 4 with the slug c and step 3, and page 5 with the slug x below it
abbrev page_four : Forest ℕ
page_four = grown 4 3 (codes "c") 4 (leaf 5 1 (codes "x") bare) bare

-- pages 2, 3 and 4 with the slugs a, b and c below the root, and page 5 below page 4
abbrev four_pages : Forest ℕ
four_pages = grown 1 1 [] 1 (leaf 2 1 (codes "a") (leaf 3 2 (codes "b") page_four)) bare

-- the character of a digit
abbrev digit : ℕ → ℕ
digit n = n + 48

-- each page with the digits of its path, in depth-first order, such as `1:1 2:11`
abbrev shown : Forest ℕ → List ℕ
shown tree =
    flat_map (λ row. digit row.id ∷ 58 ∷ (map (λ step. digit step) row.path ++ 32 ∷ []))
    (rows_of tree)

-- the paths after a move among the four pages
abbrev after : ℕ → ℕ → Place → List ℕ
after page parent place = shown (moved page parent place four_pages)

-- the four pages as they stand
at_first : shown four_pages ≡ codes "1:1 2:11 3:12 4:13 5:131 "
at_first = refl

-- page 5 among the children of the root: before a first, a middle and a last sibling, at the first
-- place and at the end
five_beside : (after 5 1 (Before 2) ≡ codes "1:1 5:11 2:12 3:13 4:14 ")
    × (after 5 1 (Before 3) ≡ codes "1:1 2:11 5:12 3:13 4:14 ")
    × (after 5 1 (Before 4) ≡ codes "1:1 2:11 3:12 5:13 4:14 ")
    × (after 5 1 First ≡ codes "1:1 5:11 2:12 3:13 4:14 ")
    × (after 5 1 End ≡ codes "1:1 2:11 3:12 4:13 5:14 ")
five_beside = (refl, refl, refl, refl, refl)

-- page 5 below a first and a middle sibling, which have no children, and below page 4, where it was
five_below : (after 5 2 First ≡ codes "1:1 2:11 5:111 3:12 4:13 ")
    × (after 5 2 End ≡ codes "1:1 2:11 5:111 3:12 4:13 ")
    × (after 5 3 First ≡ codes "1:1 2:11 3:12 5:121 4:13 ")
    × (after 5 3 End ≡ codes "1:1 2:11 3:12 5:121 4:13 ")
    × (after 5 4 End ≡ codes "1:1 2:11 3:12 4:13 5:131 ")
five_below = (refl, refl, refl, refl, refl)

-- page 2 beside page 5, an only child, and below it: its own step stays a hole
two_away : (after 2 4 (Before 5) ≡ codes "1:1 3:12 4:13 2:131 5:132 ")
    × (after 2 4 First ≡ codes "1:1 3:12 4:13 2:131 5:132 ")
    × (after 2 4 End ≡ codes "1:1 3:12 4:13 5:131 2:132 ")
    × (after 2 5 First ≡ codes "1:1 3:12 4:13 5:131 2:1311 ")
    × (after 2 5 End ≡ codes "1:1 3:12 4:13 5:131 2:1311 ")
two_away = (refl, refl, refl, refl, refl)

-- page 4 among its own siblings; page 5 goes along
four_among : (after 4 1 (Before 2) ≡ codes "1:1 4:11 5:111 2:12 3:13 ")
    × (after 4 1 (Before 3) ≡ codes "1:1 2:11 4:12 5:121 3:13 ")
    × (after 4 1 First ≡ codes "1:1 4:11 5:111 2:12 3:13 ")
    × (after 4 1 End ≡ codes "1:1 2:11 3:12 4:13 5:131 ")
four_among = (refl, refl, refl, refl)

-- page 2 among its own siblings
two_among : (after 2 1 (Before 4) ≡ codes "1:1 3:12 2:13 4:14 5:141 ")
    × (after 2 1 First ≡ codes "1:1 2:11 3:13 4:14 5:141 ")
    × (after 2 1 End ≡ codes "1:1 3:12 4:13 5:131 2:14 ")
two_among = (refl, refl, refl)

-- the paths after a deletion among the four pages, and then an append of page 6 below the root
abbrev after_hole : ℕ → List ℕ
after_hole id = shown (graft 1 End (leaf 6 0 (codes "d") bare) (without id four_pages))

-- a hole among the siblings stays; the step of a last sibling that was deleted is given again
holes : (after_hole 3 ≡ codes "1:1 2:11 4:13 5:131 6:14 ")
    × (after_hole 4 ≡ codes "1:1 2:11 3:12 6:13 ")
holes = (refl, refl)

-- pages 2 and 3 side by side, with the steps 1 and 5
abbrev two_siblings : Forest ℕ
two_siblings = leaf 2 1 (codes "a") (leaf 3 5 (codes "b") bare)

-- page 5 among these siblings
abbrev five_put : Place → List ℕ
five_put place = shown (put place (node_of 5 four_pages) two_siblings)

-- a page takes a step among siblings with a hole
steps : (five_put First ≡ codes "5:1 2:2 3:6 ") × (five_put (Before 3) ≡ codes "2:1 5:5 3:6 ")
    × (five_put End ≡ codes "2:1 3:5 5:6 ")
steps = (refl, refl, refl)

-- which pages are there
pages_there : (has_page 5 four_pages ≡ true) × (has_page 9 four_pages ≡ false)
pages_there = (refl, refl)

-- the walk to page 5: its path, its URL and its depth
walk_to_five : (path_of 5 four_pages ≡ 1 ∷ 3 ∷ 1 ∷ []) × (url_of 5 four_pages ≡ codes "/c/x/")
    × (depth_of 5 four_pages ≡ 3)
walk_to_five = (refl, refl, refl)

-- the row of page 4
abbrev row_four : Row ℕ
row_four =
    record {
      id = 4;
      parent = Some 1;
      path = 1 ∷ 3 ∷ [];
      url = codes "/c/";
      slug = codes "c";
      numchild = 1;
      body = 4;
    }

-- it stands among the rows
row_of_four : row_with 4 (rows_of four_pages) ≡ Some row_four
row_of_four = refl
