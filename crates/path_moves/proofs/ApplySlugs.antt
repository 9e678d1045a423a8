-- The slugs of siblings differ behind a move, where the page's slug is free below its new parent.
use Rattle.std.proofs.Common.{◌≡◌, ℕ, Bool, true, false, nat_eq, ◌&&◌, List, [], ◌∷◌, Option, Some, None, find, refl, sym, ap, ◌∙◌, subst, arith}
use Rattle.std.specs.List.{AllByRecursion}
use Rattle.std.specs.Option.{option_map, IfSome}
use Rattle.std.specs.Str.{bytes_eq}
use Rattle.std.proofs.lemmas.Bool.Decides.{nat_tests}
use Rattle.site_types.specs.declared.body.Body.{Body}
use Rattle.page_tree.specs.Rows.{row_with, kid_named, is_parent}
use Rattle.tree_model.proofs.CountLemmas.{same_id, id_found, told_apart}
use Rattle.page_store.specs.Pages.{Page, EachPair, HasOtherId, HasOtherSlug}
use Rattle.page_store.proofs.AllLemmas.{All-both}
use Rattle.page_store.proofs.InsertLemmas.{bytes_eq-self, all_fail_from_find}
use Rattle.page_store.proofs.KeptLemmas.{found_passes}
use Rattle.page_store.proofs.SeenLemmas.{All-find}
use Rattle.page_store.proofs.SlugLemmas.{kid_passes, others_differ}
pub use Rattle.page_tree.proofs.RowLemmas.{found_id}

-- What is known of a page behind a move: it was there, and all but its parent is as it was; its
-- parent too, where it is not the page that moved.
pub record IsAt (before : List Page) (page id : ℕ) (parent : Option ℕ) (slug : List ℕ)
    (body : Body) : Type 0 where
  pub old : Page
  pub found : row_with id before ≡ Some old
  pub slug_is : old.slug ≡ slug
  pub body_is : old.body ≡ body
  pub keeps : (page ≡ id → ⊥) → old.parent ≡ parent

-- where it is, for a row
abbrev pub StandsAt : List Page → ℕ → Page → Type 0
StandsAt before page row = IsAt before page row.id row.parent row.slug row.body

-- the page that moved has its new parent
abbrev pub GoesBelow : ℕ → ℕ → ℕ → Option ℕ → Type 0
GoesBelow page parent id q = page ≡ id → q ≡ Some parent

-- two siblings of a store have different slugs
slugs_apart : (before : List Page) (i j : ℕ) (a b : Page) → EachPair HasOtherSlug before →
    row_with i before ≡ Some a → row_with j before ≡ Some b → (b.id ≡ a.id → ⊥) → HasOtherSlug a b
slugs_apart before i j a b own found_a found_b differ =
    All-find (λ (other : Page). nat_eq other.id a.id ≡ false → HasOtherSlug a other)
    (λ (r : Page). nat_eq r.id j) before b
    (others_differ (λ (r : Page). nat_eq r.id i) before a own found_a) found_b
    (told_apart b.id a.id differ)

-- no other kid of the new parent has the page's slug
free_below : (before : List Page) (page parent : ℕ) (a : Page) → EachPair HasOtherSlug before →
    IfSome (kid_named parent a.slug before) (λ kid. kid ≡ page) → (j : ℕ) (b : Page) →
    row_with j before ≡ Some b → (b.id ≡ page → ⊥) → b.parent ≡ Some parent → b.slug ≡ a.slug → ⊥
free_below before page parent a own free j b found differ below same =
    by (find (λ (r : Page). is_parent parent r.parent && bytes_eq r.slug a.slug) before) refl free
  where
    passes : is_parent parent b.parent && bytes_eq b.slug a.slug ≡ true
    passes = rw (below, same, same_id parent, bytes_eq-self a.slug) refl

    by : (o : Option Page) →
        find (λ (r : Page). is_parent parent r.parent && bytes_eq r.slug a.slug) before ≡ o →
        IfSome (option_map (λ (r : Page). r.id) o) (λ kid. kid ≡ page) → ⊥
    by None e free =
        let fails = All-find
        (λ (r : Page). is_parent parent r.parent && bytes_eq r.slug a.slug ≡ false)
        (λ (r : Page). nat_eq r.id j) before b
        (all_fail_from_find (λ (r : Page). is_parent parent r.parent && bytes_eq r.slug a.slug)
        before e) found in
        let both : true ≡ false = sym passes ∙ fails in cc
    by (Some c) e free =
        let kid = kid_passes parent a.slug c.parent c.slug
        (found_passes (λ (r : Page). is_parent parent r.parent && bytes_eq r.slug a.slug) before
        c e) in
        let apart : b.id ≡ c.id → ⊥ = λ one. differ (one ∙ free) in
        All-find (λ (other : Page). nat_eq other.id c.id ≡ false → HasOtherSlug c other)
        (λ (r : Page). nat_eq r.id j) before b
        (others_differ (λ (r : Page). is_parent parent r.parent && bytes_eq r.slug a.slug) before c
        own e) found
        (told_apart b.id c.id apart) (below ∙ sym kid.0) (same ∙ sym kid.1)

-- the slug of the page that moved is free, told of any row of it
free_at : (before : List Page) (page parent : ℕ) (a : Page) → row_with page before ≡ Some a →
    IfSome (row_with page before)
    (λ row. IfSome (kid_named parent row.slug before) (λ kid. kid ≡ page)) →
    IfSome (kid_named parent a.slug before) (λ kid. kid ≡ page)
free_at before page parent a found free =
    subst (λ o. IfSome o (λ (row : Page). IfSome (kid_named parent row.slug before)
    (λ kid. kid ≡ page))) found free

module _ (before : List Page) (page parent : ℕ) (own : EachPair HasOtherSlug before)
    (free : IfSome (row_with page before)
    (λ row. IfSome (kid_named parent row.slug before) (λ kid. kid ≡ page))) where
  -- siblings behind the move have different slugs where one is the page that moved
  moved_apart : (x y : Page) → page ≡ x.id → (y.id ≡ x.id → ⊥) → StandsAt before page x →
      StandsAt before page y → GoesBelow page parent x.id x.parent → y.parent ≡ x.parent →
      y.slug ≡ x.slug → ⊥
  moved_apart x y is differ at_x at_y below same_parent same_slug =
      let a = at_x.old in
      let b = at_y.old in
      let found : row_with page before ≡ Some a =
      ap (λ id. row_with id before) is ∙ at_x.found in
      let own_id = found_id y.id before b at_y.found in
      let apart : b.id ≡ page → ⊥ = λ one. differ (sym own_id ∙ (one ∙ is)) in
      let keeps = at_y.keeps (λ one. differ (sym one ∙ is)) in
      free_below before page parent a own (free_at before page parent a found free) y.id b
      at_y.found apart (keeps ∙ (same_parent ∙ below is))
      (at_y.slug_is ∙ (same_slug ∙ sym at_x.slug_is))

  -- any two siblings behind the move have different slugs
  pair_apart : (x y : Page) → HasOtherId x y → StandsAt before page x → StandsAt before page y →
      GoesBelow page parent x.id x.parent → GoesBelow page parent y.id y.parent → HasOtherSlug x y
  pair_apart x y differ at_x at_y below_x below_y same_parent same_slug =
      by (nat_eq page x.id) (nat_eq page y.id) refl refl
    where
      neither : (page ≡ x.id → ⊥) → (page ≡ y.id → ⊥) → ⊥
      neither other_x other_y =
          let a = at_x.old in
          let b = at_y.old in
          let id_x = found_id x.id before a at_x.found in
          let id_y = found_id y.id before b at_y.found in
          slugs_apart before x.id y.id a b own at_x.found at_y.found
          (λ one. differ (sym id_y ∙ (one ∙ id_x)))
          (at_y.keeps other_y ∙ (same_parent ∙ sym (at_x.keeps other_x)))
          (at_y.slug_is ∙ (same_slug ∙ sym at_x.slug_is))

      by : (t u : Bool) → nat_eq page x.id ≡ t → nat_eq page y.id ≡ u → ⊥
      by true u e k =
          moved_apart x y (id_found page x.id e) differ at_x at_y below_x same_parent same_slug
      by false true e k =
          moved_apart y x (id_found page y.id k) (λ one. differ (sym one)) at_y at_x below_y
          (sym same_parent) (sym same_slug)
      by false false e k =
          neither (λ one. let f : nat_eq page x.id ≡ true = grind (arith, nat_tests) in cc)
          (λ one. let f : nat_eq page y.id ≡ true = grind (arith, nat_tests) in cc)

  -- the slugs of siblings differ behind the move
  pub slugs_after : (rows : List Page) → EachPair HasOtherId rows →
      AllByRecursion (StandsAt before page) rows →
      AllByRecursion (λ (row : Page). GoesBelow page parent row.id row.parent) rows →
      EachPair HasOtherSlug rows
  slugs_after [] ids stand below = tt
  slugs_after (row ∷ rows) ids stand below = (
    All-both (HasOtherId row)
        (λ (later : Page). StandsAt before page later
        × GoesBelow page parent later.id later.parent)
        (HasOtherSlug row)
        (λ later differ both. pair_apart row later differ stand.0 both.0 below.0 both.1) rows ids.0
        (All-both (StandsAt before page)
        (λ (later : Page). GoesBelow page parent later.id later.parent)
        (λ (later : Page). StandsAt before page later
        × GoesBelow page parent later.id later.parent) (λ later a b. (a, b)) rows stand.1 below.1),
    slugs_after rows ids.1 stand.1 below.1,
  )
