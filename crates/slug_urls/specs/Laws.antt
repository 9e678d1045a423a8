-- What the commands on a tree do to the URLs of its pages, each proved in src/laws.rt: the URLs
-- that
-- change are the ones that a plan lists.
use Rattle.std.specs.Prelude.{◌≡◌, ℕ, true, false, List, IsSome, option_and_then}
use Rattle.page_tree.specs.Tree.{Forest, bare, grown, Place, End, HasDistinctIds, has_page, without, graft, moved}
use Rattle.page_tree.specs.Rows.{rows_of, row_with}
use Rattle.site_types.specs.declared.body.Body.{Body}
use Rattle.tree_model.specs.Changes.{changed_urls}
use Rattle.tree_model.specs.Limits.{has_long_url}
use Rattle.tree_model.specs.Places.{parent_in, slug_in}
use Rattle.tree_model.specs.Renames.{renamed}
use Rattle.slug_urls.specs.Plans.{new_urls, is_one_long}

-- a new page behind the kids of its parent changes the URLs that its creation plans
abbrev pub CreationChangesUrls : Type 0
CreationChangesUrls =
    (tree : Forest Body) (page parent step : ℕ) (slug : List ℕ) (body : Body) →
    HasDistinctIds tree → has_page page tree ≡ false → has_page parent tree ≡ true →
    changed_urls (rows_of tree) (rows_of (graft parent End (grown page step slug body bare bare)
    tree))
    ≡ new_urls tree page parent slug

-- another slug of a page below another changes the URLs that it plans
abbrev pub RenamingChangesUrls : Type 0
RenamingChangesUrls =
    (tree : Forest Body) (page : ℕ) (slug : List ℕ) → HasDistinctIds tree →
    IsSome (option_and_then (λ row. row.parent) (row_with page (rows_of tree))) →
    changed_urls (rows_of tree) (rows_of (renamed page slug tree))
    ≡ new_urls tree page (parent_in tree page) slug

-- a move that puts the page below its new parent changes the URLs that it plans
abbrev pub MoveChangesUrls : Type 0
MoveChangesUrls =
    (tree : Forest Body) (page parent : ℕ) (place : Place) → HasDistinctIds tree →
    has_page page tree ≡ true → has_page parent (without page tree) ≡ true →
    has_page page (moved page parent place tree) ≡ true →
    changed_urls (rows_of tree) (rows_of (moved page parent place tree))
    ≡ new_urls tree page parent (slug_in tree page)

-- from a tree without a URL that is too long, one comes exactly where a URL that changes is too
-- long
abbrev pub LongUrlsAreNew : Type 0
LongUrlsAreNew =
    (before after : Forest Body) → has_long_url before ≡ false →
    has_long_url after ≡ is_one_long (changed_urls (rows_of before) (rows_of after))
