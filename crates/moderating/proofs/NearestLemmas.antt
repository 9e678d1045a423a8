-- The nearest workflow of a page is its own, or the nearest one of the page above it.
use Rattle.std.proofs.Common.{◌≡◌, ℕ, List, [], ◌∷◌, ◌++◌, Option, Some, None, IsSome, map, refl, sym, ap, ◌∙◌, rules}
use Rattle.std.specs.Prelude.{option_and_then}
use Rattle.std.specs.Option.{option_or}
use Rattle.page_tree.specs.Tree.{Forest}
use Rattle.page_tree.specs.Walk.{Visit, walk}
use Rattle.page_tree.specs.Rows.{rows_of, row_with}
use Rattle.site_types.specs.declared.body.Body.{Body}
use Rattle.page_store.specs.Pages.{Page, ArePages}
use Rattle.tree_rows.proofs.Above.{read_above}
use Rattle.tree_rows.proofs.Up.{walk_up}
use Rattle.site_model.specs.Moderating.{last_workflow}
use Rattle.moderating.specs.Nearest.{own_workflow}

-- the last workflow of a list
abbrev last_of : List (Option ℕ) → Option ℕ
last_of [] = None
last_of (workflow ∷ workflows) = option_or (last_of workflows) workflow

-- a page's own workflow
abbrev assigned : ℕ → Body → Option ℕ
assigned id body = body.workflow

-- the last workflow on a walk is the last of those of its pages
last_read : (visits : List (Visit Body)) →
    last_workflow visits
    ≡ last_of (map (λ (visit : Visit Body). assigned visit.id visit.body) visits)
last_read [] = refl
last_read (visit ∷ visits) = ap (λ o. option_or o visit.body.workflow) (last_read visits)

-- one or none
or_none : (o : Option ℕ) → option_or o None ≡ o
or_none None = refl
or_none (Some workflow) = refl

-- one of three
or_three : (a b c : Option ℕ) → option_or (option_or a b) c ≡ option_or a (option_or b c)
or_three None b c = refl
or_three (Some workflow) b c = refl

-- the last workflow of a list with one more is that one, where it is one
last_more : (workflows : List (Option ℕ)) (last : Option ℕ) →
    last_of (workflows ++ last ∷ []) ≡ option_or last (last_of workflows)
last_more [] None = refl
last_more [] (Some workflow) = refl
last_more (workflow ∷ workflows) last =
    ap (λ o. option_or o workflow) (last_more workflows last)
    ∙ or_three last (last_of workflows) workflow

-- the last workflow on the walk to a parent, where there is one
abbrev last_above : Option ℕ → Forest Body → Option ℕ
last_above None tree = None
last_above (Some parent) tree = last_workflow (walk parent tree)

-- what is read on the walk to a parent comes to that
above_read : (parent : Option ℕ) (tree : Forest Body) →
    last_of (read_above assigned parent tree) ≡ last_above parent tree
above_read None tree = refl
above_read (Some parent) tree = sym (last_read (walk parent tree))

module _ (pages : List Page) (are : ArePages pages) (id : ℕ) (tree : Forest Body)
    (is_tree : pages ≡ rows_of tree) where
  -- the last workflow on the walk to a page is its own, or the last on the walk to its parent
  last_up : (row : Page) → row_with id pages ≡ Some row →
      last_workflow (walk id tree) ≡ option_or row.body.workflow (last_above row.parent tree)
  last_up row found =
      last_read (walk id tree)
      ∙ (ap last_of (walk_up pages are id assigned tree is_tree row found)
      ∙ (last_more (read_above assigned row.parent tree) row.body.workflow
      ∙ ap (option_or row.body.workflow) (above_read row.parent tree)))

  -- the same by what is looked up
  nearest_is : IsSome (row_with id pages) →
      option_or (own_workflow id pages)
      (last_above (option_and_then (λ (row : Page). row.parent) (row_with id pages)) tree)
      ≡ last_workflow (walk id tree)
  nearest_is there = by (row_with id pages) refl there
    where
      by : (o : Option Page) → row_with id pages ≡ o → IsSome o →
          option_or (option_and_then (λ (row : Page). row.body.workflow) o)
          (last_above (option_and_then (λ (row : Page). row.parent) o) tree)
          ≡ last_workflow (walk id tree)
      by None e some = absurd (search rules)
      by (Some row) e some = sym (last_up row e)

  -- a page's own workflow is its nearest
  pub own_first : (workflow : ℕ) → IsSome (row_with id pages) →
      Some workflow ≡ own_workflow id pages → Some workflow ≡ last_workflow (walk id tree)
  own_first workflow there own =
      ap (λ o. option_or o (last_above (option_and_then (λ (row : Page). row.parent)
      (row_with id pages)) tree)) own
      ∙ nearest_is there

  -- a page without one has that of its parent
  pub then_above : (parent : ℕ) (up : Option ℕ) → IsSome (row_with id pages) →
      None ≡ own_workflow id pages →
      Some parent ≡ option_and_then (λ (row : Page). row.parent) (row_with id pages) →
      up ≡ last_workflow (walk parent tree) → up ≡ last_workflow (walk id tree)
  then_above parent up there own above is =
      is
      ∙ (ap (λ o. last_above o tree) above
      ∙ (ap (λ o. option_or o (last_above (option_and_then (λ (row : Page). row.parent)
      (row_with id pages)) tree)) own
      ∙ nearest_is there))

  -- and none where it has no parent
  pub none_above : IsSome (row_with id pages) → None ≡ own_workflow id pages →
      None ≡ option_and_then (λ (row : Page). row.parent) (row_with id pages) →
      None ≡ last_workflow (walk id tree)
  none_above there own above =
      ap (λ o. last_above o tree) above
      ∙ (ap (λ o. option_or o (last_above (option_and_then (λ (row : Page). row.parent)
      (row_with id pages)) tree)) own
      ∙ nearest_is there)
