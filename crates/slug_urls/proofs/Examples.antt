-- The definitions at worked values: page home (2) below the root, ab (3) and abc (4) below it, and
-- k
-- (5) below ab.
use Rattle.std.proofs.Common.{◌≡◌, ℕ, ◌+◌, true, false, List, [], ◌∷◌, ◌++◌, Some, None, nat_lt, length, refl, arith, codes, length-append}
use Rattle.std.specs.Prelude.{Ok, Err}
use Rattle.std.proofs.lemmas.Bool.Decides.{nat_tests}
use Rattle.page_tree.specs.Tree.{Forest, bare, grown, End, moved}
use Rattle.page_tree.specs.Walk.{SLASH}
use Rattle.page_tree.specs.Rows.{child_url, rows_of}
use Rattle.site_types.specs.RootBody.{root_body}
use Rattle.site_types.specs.declared.body.Body.{Body}
use Rattle.tree_model.specs.Changes.{changed_urls}
use Rattle.tree_model.specs.Limits.{MAX_URL}
use Rattle.slug_urls.specs.declared.fault.UrlFault.TheVariants.{Taken, TooLong}
use Rattle.slug_urls.specs.Urls.{page_at}
use Rattle.slug_urls.specs.Plans.{planned_urls}

-- the tree of the five pages
abbrev five_pages : Forest Body
five_pages =
    grown 1 1 [] root_body (grown 2 1 (codes "home") root_body
    (grown 3 1 (codes "ab") root_body (grown 5 1 (codes "k") root_body bare bare)
    (grown 4 2 (codes "abc") root_body bare bare)) bare) bare

-- `/home/ab/k/` leads to page 5, and `/home/k/` to none
page_found : (page_at (codes "/home/ab/k/") (rows_of five_pages) ≡ Some 5)
    × (page_at (codes "/home/k/") (rows_of five_pages) ≡ None)
page_found = (refl, refl)

-- ab gets the slug x: its URL changes and that of k, but not that of abc
slug_changed : planned_urls five_pages 3 2 (codes "x")
    ≡ Ok ((3, codes "/home/x/") ∷ (5, codes "/home/x/k/") ∷ [])
slug_changed = refl

-- ab goes below the root with its slug
page_moved : planned_urls five_pages 3 1 (codes "ab")
    ≡ Ok ((3, codes "/ab/") ∷ (5, codes "/ab/k/") ∷ [])
page_moved = refl

-- and the move changes just these URLs
move_changes : changed_urls (rows_of five_pages) (rows_of (moved 3 1 End five_pages))
    ≡ (3, codes "/ab/") ∷ (5, codes "/ab/k/") ∷ []
move_changes = refl

-- ab keeps its parent and its slug: no URL changes, and the slug is not taken
all_stays : planned_urls five_pages 3 2 (codes "ab") ≡ Ok []
all_stays = refl

-- abc has its slug
slug_taken : planned_urls five_pages 3 2 (codes "abc") ≡ Err (Taken 4)
slug_taken = refl

-- page 9 is not there yet
page_created : planned_urls five_pages 9 3 (codes "new") ≡ Ok ((9, codes "/home/ab/new/") ∷ [])
page_created = refl

-- the length of a URL below the root is that of the slug and two more
length_below_root : (slug : List ℕ) → length (child_url (SLASH ∷ []) slug) ≡ length slug + 2
length_below_root slug =
    let front = length-append (SLASH ∷ []) slug in
    let whole = length-append ((SLASH ∷ []) ++ slug) (SLASH ∷ []) in omega (arith, front, whole)

-- 8,192 bytes fit
long_fits : (slug : List ℕ) → length slug ≡ 8190 →
    nat_lt MAX_URL (length (child_url (SLASH ∷ []) slug)) ≡ false
long_fits slug is = let whole = length_below_root slug in grind (arith, nat_tests)

-- and 8,193 do not
longer_is_refused : (slug : List ℕ) → length slug ≡ 8191 →
    nat_lt MAX_URL (length (child_url (SLASH ∷ []) slug)) ≡ true
longer_is_refused slug is = let whole = length_below_root slug in grind (arith, nat_tests)

-- a new page below the root with a URL of 8,192 bytes is planned
long_page : (slug : List ℕ) → length slug ≡ 8190 →
    planned_urls (grown 1 1 [] root_body bare bare) 9 1 slug
    ≡ Ok ((9, child_url (SLASH ∷ []) slug) ∷ [])
long_page slug is = rw (long_fits slug is) refl

-- and one of 8,193 is not
longer_page : (slug : List ℕ) → length slug ≡ 8191 →
    planned_urls (grown 1 1 [] root_body bare bare) 9 1 slug ≡ Err TooLong
longer_page slug is = rw (longer_is_refused slug is) refl
