-- From a page to the one above it, in the rows of a tree: what is granted on the way.
use Rattle.std.proofs.Common.{◌≡◌, ℕ, Bool, true, false, ◌||◌, List, [], ◌∷◌, ◌++◌, Option, Some, None, IsSome, map, refl, sym, ap, ◌∙◌, rules}
use Rattle.std.specs.List.{list_any}
use Rattle.std.specs.Prelude.{option_and_then}
use Rattle.std.proofs.lemmas.List.Folds.{list_any-append}
use Rattle.page_tree.specs.Tree.{Forest}
use Rattle.page_tree.specs.Walk.{Visit, walk}
use Rattle.page_tree.specs.Rows.{rows_of, row_with}
use Rattle.site_types.specs.declared.body.Body.{Body}
use Rattle.site_types.specs.declared.permission.Permission.{Permission}
use Rattle.page_store.specs.Pages.{Page, ArePages}
use Rattle.tree_rows.proofs.Up.{walk_up as read_up}
pub use Rattle.tree_rows.proofs.Up.{depth_at, parent_is_up}
use Rattle.grants.specs.declared.right.Held.{Held}
use Rattle.grants.specs.Granted.{held_where, held_either}
use Rattle.grants.proofs.AboveLemmas.{ids_to, ids_above}
use Rattle.grants.proofs.HeldLemmas.{held_agree}

-- the walk to a page is the walk to its parent, and the page
pub walk_up : (pages : List Page) → ArePages pages → (id : ℕ) (tree : Forest Body) →
    pages ≡ rows_of tree → IsSome (row_with id pages) →
    ids_to id tree
    ≡ ids_above (option_and_then (λ (row : Page). row.parent) (row_with id pages)) tree ++ id ∷ []
walk_up pages are id tree is_tree there = by (row_with id pages) refl there
  where
    by : (o : Option Page) → row_with id pages ≡ o → IsSome o →
        ids_to id tree
        ≡ ids_above (option_and_then (λ (row : Page). row.parent) o) tree ++ id ∷ []
    by None e some = absurd (search rules)
    by (Some row) e some = read_up pages are id (λ i (body : Body). i) tree is_tree row e

-- whether a page on a walk passes a test of its id
any_visit : (test : ℕ → Bool) (visits : List (Visit Body)) →
    list_any (λ (visit : Visit Body). test visit.id) visits
    ≡ list_any test (map (λ (visit : Visit Body). visit.id) visits)
any_visit test [] = refl
any_visit test (visit ∷ visits) = ap (λ more. test visit.id || more) (any_visit test visits)

-- one test or none
or_none : (a : Bool) → a || false ≡ a
or_none true = refl
or_none false = refl

module _ (pages : List Page) (are : ArePages pages) (tree : Forest Body)
    (is_tree : pages ≡ rows_of tree) (id : ℕ) (there : IsSome (row_with id pages))
    (test : Permission → ℕ → Bool) where
  -- what is held on the walk to a page
  abbrev held_to : ℕ → Held
  held_to page = held_where (λ p. list_any (λ (visit : Visit Body). test p visit.id) (walk page tree))

  -- what is held on the way to the page, by what is held on the way to its parent
  pub held_up : (parent : ℕ) (up here : Held) →
      Some parent ≡ option_and_then (λ (row : Page). row.parent) (row_with id pages) →
      up ≡ held_to parent → here ≡ held_where (λ p. test p id) →
      held_either up here ≡ held_to id
  held_up parent up here is up_is here_is =
      ap (λ held. held_either held here) up_is
      ∙ (ap (λ held. held_either (held_to parent) held) here_is
      ∙ held_agree
      (λ p. list_any (λ (visit : Visit Body). test p visit.id) (walk parent tree) || test p id)
      (λ p. list_any (λ (visit : Visit Body). test p visit.id) (walk id tree))
      (λ p. ap (λ t. t || test p id) (any_visit (test p) (walk parent tree))
      ∙ (ap (λ t. list_any (test p) (ids_to parent tree) || t) (sym (or_none (test p id)))
      ∙ (sym (list_any-append (test p) (ids_to parent tree) (id ∷ []))
      ∙ (ap (λ (o : Option ℕ). list_any (test p) (ids_above o tree ++ id ∷ [])) is
      ∙ (ap (list_any (test p)) (sym (walk_up pages are id tree is_tree there))
      ∙ sym (any_visit (test p) (walk id tree))))))))

  -- and what is held at the root
  pub held_alone : (here : Held) →
      None ≡ option_and_then (λ (row : Page). row.parent) (row_with id pages) →
      here ≡ held_where (λ p. test p id) → here ≡ held_to id
  held_alone here is here_is =
      here_is
      ∙ held_agree (λ p. test p id)
      (λ p. list_any (λ (visit : Visit Body). test p visit.id) (walk id tree))
      (λ p. sym (or_none (test p id))
      ∙ (ap (λ (o : Option ℕ). list_any (test p) (ids_above o tree ++ id ∷ [])) is
      ∙ (ap (list_any (test p)) (sym (walk_up pages are id tree is_tree there))
      ∙ sym (any_visit (test p) (walk id tree)))))
