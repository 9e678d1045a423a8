-- What holds of the rows of a store: they are the rows of a tree in depth-first order, each with
-- its parent and the number of its kids.
use Rattle.std.specs.Prelude.{◌≡◌, true, None, IsSome, List, [], ◌∷◌, length}
use Rattle.std.specs.List.{AllByRecursion}
use Rattle.page_tree.specs.Rows.{Row, comes_before, kids_in}
use Rattle.step_path.specs.Path.{IsPath}
use Rattle.site_types.specs.Ids.{IsPageId}
use Rattle.site_types.specs.declared.body.Body.{Body}
use Rattle.page_store.specs.PageRows.{parent_id}

-- a row of a page
abbrev pub Page : Type 0
Page = Row Body

-- R holds of each row and each later one
abbrev pub EachPair : (Page → Page → Type 0) → List Page → Type 0
EachPair R [] = Unit {0}
EachPair R (row ∷ rows) = AllByRecursion (λ later. R row later) rows × EachPair R rows

-- the path of the first comes before the path of the second
abbrev pub IsBefore : Page → Page → Type 0
IsBefore row later = comes_before row.path later.path ≡ true

-- the ids differ
abbrev pub HasOtherId : Page → Page → Type 0
HasOtherId row later = later.id ≡ row.id → ⊥

-- siblings have different slugs
abbrev pub HasOtherSlug : Page → Page → Type 0
HasOtherSlug row later = later.parent ≡ row.parent → later.slug ≡ row.slug → ⊥

-- the row of the root
pub record IsRootRow (row : Page) : Type 0 where
  pub id_is : row.id ≡ 1
  pub no_parent : row.parent ≡ None
  pub path_is : row.path ≡ 1 ∷ []
  pub no_slug : row.slug ≡ []

-- the first row is the root's, and each later one has a parent
abbrev pub StartsAtRoot : List Page → Type 0
StartsAtRoot [] = ⊥
StartsAtRoot (row ∷ rows) = IsRootRow row × AllByRecursion (λ later. IsSome later.parent) rows

-- The rows of a tree of pages: the root first, each path once and in depth-first order, each id
-- once and in its range; a page's parent is the page whose path is its own without the last step; a
-- page's child count is the number of its kids; and no two kids of a page have one slug.
pub record ArePages (pages : List Page) : Type 0 where
  pub root : StartsAtRoot pages
  pub ids_fit : AllByRecursion (λ row. IsPageId row.id) pages
  pub paths : AllByRecursion (λ row. IsPath row.path) pages
  pub in_order : EachPair IsBefore pages
  pub own_ids : EachPair HasOtherId pages
  pub parents : AllByRecursion (λ row. row.parent ≡ parent_id row.path pages) pages
  pub counts : AllByRecursion (λ row. row.numchild ≡ length (kids_in row.id pages)) pages
  pub own_slugs : EachPair HasOtherSlug pages
