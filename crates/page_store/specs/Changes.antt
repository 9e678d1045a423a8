-- What the calls that change rows leave: a page with other fields, a page with another slug, and
-- the rows without a subtree.
use Rattle.std.specs.Prelude.{◌≡◌, ℕ, ◌-◌, ◌==◌, not, IsSome, if◌then◌else◌, List, map, filter}
use Rattle.std.specs.Option.{option_map_or, IfSome}
use Rattle.page_tree.specs.Rows.{row_with, kid_named}
use Rattle.site_types.specs.declared.body.Body.{Body}
use Rattle.page_store.specs.declared.stored.StoredRow.{StoredRow}
use Rattle.page_store.specs.Pages.{Page}
use Rattle.page_store.specs.Search.{begins}

-- the rows with a change to the page with the id
abbrev pub changed : ℕ → (Page → Page) → List Page → List Page
changed id change rows = map (λ row. if row.id == id then change row else row) rows

-- a row with these fields
abbrev pub body_changed : Body → Page → Page
body_changed body row = record row { body = body }

-- a row with this slug
abbrev pub slug_changed : List ℕ → Page → Page
slug_changed slug row = record row { slug = slug }

-- the rows where the page with the id has these fields
abbrev pub with_body : ℕ → Body → List Page → List Page
with_body id body rows = changed id (body_changed body) rows

-- the rows where the page with the id has this slug
abbrev pub with_slug : ℕ → List ℕ → List Page → List Page
with_slug id slug rows = changed id (slug_changed slug) rows

-- A page may get the slug: it is there, it is not the root, and no other kid of its parent has the
-- slug.
pub record MayHaveSlug (pages : List Page) (id : ℕ) (slug : List ℕ) : Type 0 where
  pub there : IsSome (row_with id pages)
  pub below_root : id ≡ 1 → ⊥
  pub free : IfSome (row_with id pages) (λ row. IfSome row.parent (λ parent. IfSome (kid_named
      parent slug pages) (λ kid. kid ≡ id)))

-- what is kept of a page, with these fields
abbrev pub body_put : Body → StoredRow → StoredRow
body_put body stored = record stored { row = record stored.row { body = body } }

-- what is kept of a page, with this slug
abbrev pub slug_put : List ℕ → StoredRow → StoredRow
slug_put slug stored = record stored { row = record stored.row { slug = slug } }

-- a row with one child less
abbrev pub without_kid : Page → Page
without_kid row = record row { numchild = row.numchild - 1 }

-- what is kept of a page, with one child less
abbrev pub kid_taken : StoredRow → StoredRow
kid_taken stored = record stored { row = record stored.row { numchild = stored.row.numchild - 1 } }

-- the rows that do not begin with the path of this one, where its parent has one child less
abbrev pub without_row : List Page → Page → List Page
without_row rows row =
    let rest = filter (λ other. not (begins row.path other.path)) rows in
    option_map_or (λ parent. changed parent without_kid rest) row.parent rest

-- the rows without the subtree of the page with the id
abbrev pub without_range : ℕ → List Page → List Page
without_range id rows = option_map_or (without_row rows) (row_with id rows) rows
