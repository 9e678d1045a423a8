-- The change of another slug: the rows can take it.
use Rattle.std.proofs.Common.{◌≡◌, ℕ, true, List, [], Option, Some, None, is_some, unwrap_or, refl, sym, ap, ◌∙◌, rules}
use Rattle.std.specs.Option.{option_and_then}
use Rattle.page_tree.specs.Tree.{Forest, has_page, kids_of, kid_with_slug, without}
use Rattle.page_tree.specs.Rows.{rows_of, row_with, kid_named}
use Rattle.page_tree.proofs.RowLemmas.{has_page-rows}
use Rattle.site_types.specs.declared.body.Body.{Body}
use Rattle.tree_model.specs.Places.{parent_in}
use Rattle.page_store.specs.Changes.{MayHaveSlug}
use Rattle.page_store.specs.Pages.{Page, ArePages}
use Rattle.page_store.proofs.SlugLemmas.{parent_there}
use Rattle.slug_urls.proofs.Taken.{taken_is}
use Rattle.tree_edits.proofs.MoveChange.{kid_is}
use Rattle.tree_edits.proofs.ParentLemmas.{parent_row}

-- A page below another, with its row.
record IsBelow (tree : Forest Body) (page : ℕ) : Type 0 where
  pub row : Page
  pub parent : ℕ
  pub found : row_with page (rows_of tree) ≡ Some row
  pub up : row.parent ≡ Some parent

-- a page that is there and is not the root is below another
below_of : (tree : Forest Body) (page : ℕ) → ArePages (rows_of tree) → has_page page tree ≡ true →
    (page ≡ 1 → ⊥) → IsBelow tree page
below_of tree page are there other =
    by (row_with page (rows_of tree)) refl (sym (has_page-rows page None [] [] tree) ∙ there)
  where
    up : (row : Page) → row_with page (rows_of tree) ≡ Some row → (o : Option ℕ) →
        row.parent ≡ o → is_some o ≡ true → IsBelow tree page
    up row e None is some = absurd (cc)
    up row e (Some parent) is some =
        record { row = row; parent = parent; found = e; up = is }

    by : (o : Option Page) → row_with page (rows_of tree) ≡ o → is_some o ≡ true →
        IsBelow tree page
    by None e some = absurd (cc)
    by (Some row) e some =
        up row e row.parent refl (parent_there page (rows_of tree) row are.root e other)

-- the parent of a page below another
parent_is : (tree : Forest Body) (page : ℕ) (below : IsBelow tree page) →
    parent_in tree page ≡ below.parent
parent_is tree page below =
    ap (λ (o : Option Page). unwrap_or (option_and_then (λ (r : Page). r.parent) o) 0) below.found
    ∙ ap (λ (o : Option ℕ). unwrap_or o 0) below.up

-- a page below the root may get a slug that no other kid of its parent has
pub may_have : (tree : Forest Body) (page : ℕ) (slug : List ℕ) → ArePages (rows_of tree) →
    has_page page tree ≡ true → (page ≡ 1 → ⊥) →
    kid_with_slug slug (kids_of (parent_in tree page) (without page tree)) ≡ None →
    MayHaveSlug (rows_of tree) page slug
may_have tree page slug are there other free =
    let below = below_of tree page are there other in
    let under = parent_row (rows_of tree) page below.parent below.row are below.found below.up in
    let free_there = ap (λ p. kid_with_slug slug (kids_of p (without page tree)))
    (sym (parent_is tree page below)) ∙ free in
    record {
      there = rw below.found (search rules);
      below_root = other;
      free = rw (below.found, below.up)
          (kid_is page (kid_named below.parent slug (rows_of tree))
          (sym (taken_is tree page below.parent slug are (rw under.found (search rules))
          (rw (below.found, under.found) under.outside)) ∙ free_there));
    }
