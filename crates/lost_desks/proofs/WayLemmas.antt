-- Whether a page is on the way to another, by the page above that one.
use Rattle.std.proofs.Common.{◌≡◌, ℕ, Bool, true, false, ◌||◌, nat_eq, List, [], ◌∷◌, Option, Some, None, IsSome, map, refl, sym, ap, ◌∙◌}
use Rattle.std.specs.List.{list_any}
use Rattle.std.specs.Prelude.{option_and_then}
use Rattle.std.specs.Option.{option_map}
use Rattle.std.proofs.lemmas.List.Folds.{list_any-append}
use Rattle.page_tree.specs.Tree.{Forest}
use Rattle.page_tree.specs.Walk.{Visit, walk}
use Rattle.page_tree.specs.Rows.{rows_of, row_with}
use Rattle.site_types.specs.declared.body.Body.{Body}
use Rattle.page_store.specs.Pages.{Page, ArePages}
use Rattle.site_model.specs.Views.{last_visit, body_of}
use Rattle.site_model.specs.Losing.{is_within}
use Rattle.site_model.proofs.ViewLemmas.{walk_ends}
use Rattle.grants.proofs.AboveLemmas.{ids_above}
use Rattle.grants.proofs.UpLemmas.{walk_up}

-- a walk on which no last page is found leads nowhere
no_walk : (visits : List (Visit Body)) →
    option_map (λ (visit : Visit Body). visit.body) (last_visit visits) ≡ None → visits ≡ []
no_walk [] none = refl
no_walk (visit ∷ []) none = absurd cc
no_walk (visit ∷ next ∷ visits) none = absurd (other (no_walk (next ∷ visits) none))
  where
    other : next ∷ visits ≡ [] → ⊥
    other same = cc

-- no page is on the way to one that is not there
pub nowhere : (tree : Forest Body) (page inner : ℕ) → body_of tree inner ≡ None →
    false ≡ is_within tree page inner
nowhere tree page inner none =
    let empty = no_walk (walk inner tree) (walk_ends inner tree ∙ none) in
    ap (λ (visits : List (Visit Body)). list_any (λ one. nat_eq one page)
    (map (λ (visit : Visit Body). visit.id) visits)) (sym empty)

module _ (pages : List Page) (are : ArePages pages) (tree : Forest Body)
    (is_tree : pages ≡ rows_of tree) (page inner : ℕ) (there : IsSome (row_with inner pages)) where
  -- the page above
  abbrev above : Option ℕ
  above = option_and_then (λ (row : Page). row.parent) (row_with inner pages)

  -- a page is on the way to the page above, or it is the page itself
  within_up : is_within tree page inner
      ≡ list_any (λ one. nat_eq one page) (ids_above above tree) || (nat_eq inner page || false)
  within_up =
      ap (list_any (λ one. nat_eq one page)) (walk_up pages are inner tree is_tree there)
      ∙ list_any-append (λ one. nat_eq one page) (ids_above above tree) (inner ∷ [])

  -- the page itself
  pub within_here : nat_eq inner page ≡ true → true ≡ is_within tree page inner
  within_here is =
      let found : true ≡ list_any (λ one. nat_eq one page) (ids_above above tree)
      || (nat_eq inner page || false) = rw is
      (always (list_any (λ one. nat_eq one page) (ids_above above tree))) in
      found ∙ sym within_up
    where
      always : (t : Bool) → true ≡ t || true
      always true = refl
      always false = refl

  -- a page above it
  pub within_above : (parent : ℕ) (told : Bool) → Some parent ≡ above →
      nat_eq inner page ≡ false → told ≡ is_within tree page parent →
      told ≡ is_within tree page inner
  within_above parent told is differ same =
      let up : told ≡ list_any (λ one. nat_eq one page) (ids_above above tree) =
      same ∙ ap (λ (o : Option ℕ). list_any (λ one. nat_eq one page) (ids_above o tree)) is in
      up ∙ (last (list_any (λ one. nat_eq one page) (ids_above above tree)) (nat_eq inner page)
      differ ∙ sym within_up)
    where
      last : (t u : Bool) → u ≡ false → t ≡ t || (u || false)
      last true u fails = refl
      last false u fails = rw fails refl

  -- and none where nothing is above it
  pub within_alone : None ≡ above → nat_eq inner page ≡ false → false ≡ is_within tree page inner
  within_alone is differ =
      let none : list_any (λ one. nat_eq one page) (ids_above above tree) ≡ false =
      ap (λ (o : Option ℕ). list_any (λ one. nat_eq one page) (ids_above o tree)) (sym is) in
      let both : list_any (λ one. nat_eq one page) (ids_above above tree)
      || (nat_eq inner page || false) ≡ false = rw (none, differ) refl in
      sym (within_up ∙ both)
