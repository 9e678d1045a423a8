-- The definitions at worked values: a small tree, moves in it, another slug, and what they change.
use Rattle.std.proofs.Common.{◌≡◌, ℕ, true, false, [], ◌∷◌, refl, codes}
use Rattle.page_tree.specs.Tree.{Forest, bare, grown, Before, End}
use Rattle.page_tree.specs.Rows.{rows_of}
use Rattle.site_types.specs.declared.position.Position.TheVariants.{FirstChild, LastChild, Left, Right}
use Rattle.tree_model.specs.Places.{parent_in, place_at, moved_to, leads_into_itself, stays_put}
use Rattle.tree_model.specs.Renames.{renamed}
use Rattle.tree_model.specs.Limits.{height, is_full}
use Rattle.tree_model.specs.Changes.{changed_paths, changed_urls, with_urls}

-- below the root a, b and c are pages 2, 3 and 4, at steps 1, 2 and 3, and x is page 5 below c;
-- nothing else is kept of them
abbrev small : Forest ℕ
small =
    grown 1 1 [] 0
    (grown 2 1 (codes "a") 0 bare
    (grown 3 2 (codes "b") 0 bare
    (grown 4 3 (codes "c") 0 (grown 5 1 (codes "x") 0 bare bare) bare))) bare

-- c to the left of a takes its step, and a and b go up by one
c_left_of_a : moved_to small 4 2 Left ≡
    grown 1 1 [] 0
    (grown 4 1 (codes "c") 0 (grown 5 1 (codes "x") 0 bare bare)
    (grown 2 2 (codes "a") 0 bare
    (grown 3 3 (codes "b") 0 bare bare))) bare
c_left_of_a = refl

-- so each page but the root has another path
paths_of_c_left_of_a : changed_paths (rows_of small) (rows_of (moved_to small 4 2 Left)) ≡
    (4, 1 ∷ 1 ∷ []) ∷ (5, 1 ∷ 1 ∷ 1 ∷ []) ∷ (2, 1 ∷ 2 ∷ []) ∷ (3, 1 ∷ 3 ∷ []) ∷ []
paths_of_c_left_of_a = refl

-- within one parent no URL changes
urls_of_c_left_of_a : changed_urls (rows_of small) (rows_of (moved_to small 4 2 Left)) ≡ []
urls_of_c_left_of_a = refl

-- a goes below c, and leaves a hole
a_below_c : moved_to small 2 4 LastChild ≡
    grown 1 1 [] 0
    (grown 3 2 (codes "b") 0 bare
    (grown 4 3 (codes "c") 0
    (grown 5 1 (codes "x") 0 bare (grown 2 2 (codes "a") 0 bare bare)) bare)) bare
a_below_c = refl

-- its URL is then another one, and no other page's
urls_of_a_below_c : changed_urls (rows_of small) (rows_of (moved_to small 2 4 LastChild)) ≡
    (2, codes "/c/a/") ∷ []
urls_of_a_below_c = refl

-- behind b is c
right_of_b : place_at small 3 Right ≡ Before 4
right_of_b = refl

-- behind the last one is the end
right_of_c : place_at small 4 Right ≡ End
right_of_c = refl

-- the parent of x is c
parent_of_x : parent_in small 5 ≡ 4
parent_of_x = refl

-- the root has none
parent_of_root : parent_in small 1 ≡ 0
parent_of_root = refl

-- a target below the page leads into it
into_c : leads_into_itself small 4 5 Left ≡ true
into_c = refl

-- and so does the page at a place below itself
below_c : leads_into_itself small 4 4 FirstChild ≡ true
below_c = refl

-- the page at a place beside itself does not
beside_c : leads_into_itself small 4 4 Left ≡ false
beside_c = refl

-- it stays put
c_stays : stays_put 4 4 Left ≡ true
c_stays = refl

-- another slug of c is in the URLs of c and x
urls_of_another_slug : changed_urls (rows_of small) (rows_of (renamed 4 (codes "y") small)) ≡
    (4, codes "/y/") ∷ (5, codes "/y/x/") ∷ []
urls_of_another_slug = refl

-- rows with the URLs that change are the rows of the later tree
urls_suffice :
    with_urls (changed_urls (rows_of small) (rows_of (renamed 4 (codes "y") small))) (rows_of small)
    (rows_of (renamed 4 (codes "y") small)) ≡ rows_of (renamed 4 (codes "y") small)
urls_suffice = refl

-- the tree has three steps at its deepest page
height_of_small : height small ≡ 3
height_of_small = refl

-- behind the last step there is no other
full : is_full {Body = ℕ} (grown 1 1 [] 0 (grown 2 1679615 (codes "a") 0 bare bare) bare) 1 End ≡ true
full = refl

-- and where the last step is 3 there is
not_full : is_full small 1 End ≡ false
not_full = refl
