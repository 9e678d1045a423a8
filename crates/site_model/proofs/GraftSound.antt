-- A page that is put in below a parent, with all below it, leaves a tree of pages one, where its
-- ids are new and the rules on slugs, steps, depth and URLs do not refuse it.
use Rattle.std.proofs.Common.{◌≡◌, ◌+◌, ◌<◌, ◌≤◌, ℕ, Bool, true, false, List, ◌∷◌, ◌⊎◌, inl, inr, length, Option, None, nat_eq, nat_lt, refl, sym, ◌∙◌, arith}
use Rattle.std.specs.List.{AllByRecursion}
use Rattle.std.proofs.lemmas.Bool.Decides.{nat_tests}
use Rattle.page_tree.specs.Tree.{Forest, bare, grown, End, AreRising, has_page, kids_of, kid_with_slug, graft}
use Rattle.page_tree.specs.Rows.{Row, rows_of}
use Rattle.step_path.specs.declared.step.TheConstants.{LAST_STEP}
use Rattle.step_path.specs.declared.path.TheConstants.{MAX_DEPTH}
use Rattle.site_ids.specs.declared.ids.TheConstants.{LAST_PAGE_ID}
use Rattle.site_ids.specs.Slug.{IsSlug}
use Rattle.site_types.specs.declared.body.Body.{Body}
use Rattle.site_types.specs.declared.refusal.Refusal.{Refusal}
use Rattle.site_types.specs.declared.refusal.Refusal.TheVariants.{StepsFull, TooDeep, UrlTooLong}
use Rattle.tree_model.specs.Limits.{MAX_URL, height}
use Rattle.tree_model.specs.Shape.{AllPages, AreWithin, SlugsDiffer}
use Rattle.tree_model.proofs.CountLemmas.{count, once, distinct_ids, has_counts, counts_has}
use Rattle.tree_model.proofs.PageLemmas.{AllPages-graft, AllPages-weaker}
use Rattle.tree_model.proofs.PlaceLemmas.{IsAmong, AtParent-kids, graft_counts}
use Rattle.tree_model.proofs.SiblingLemmas.{AreRising-graft, SlugsDiffer-graft}
use Rattle.tree_model.proofs.WholeLemmas.{whole-graft}
use Rattle.site_model.specs.Rules.{first_of, slug_taken, steps_full, too_deep, url_too_long}
use Rattle.site_model.specs.Sound.{IsTree, IsGiven, IsNext}
use Rattle.site_model.proofs.ClearLemmas.{first_clear, test_clear, slug_clear, limit_clear, urls_clear, not_given}
use Rattle.site_model.proofs.RegularLemmas.{KeepRegular}
use Rattle.site_model.proofs.RowLemmas.{rows_within, rows_too_deep}

-- What the rules on slugs, steps, depth and URLs say that do not refuse a tree.
pub record IsRoomy (pages after : Forest Body) (parent : ℕ) (slug : List ℕ) : Type 0 where
  pub free : kid_with_slug slug (kids_of parent pages) ≡ None
  pub steps : AreWithin LAST_STEP after
  pub depth : height after ≤ MAX_DEPTH
  pub urls : AllByRecursion (λ (row : Row Body). length row.url ≤ MAX_URL) (rows_of after)

-- the rules, one by one, and those that come after them
pub roomy : (pages after : Forest Body) (parent : ℕ) (slug : List ℕ)
    (rules : List (Option Refusal)) →
    first_of
    (slug_taken pages parent slug
    ∷ steps_full (rows_of after)
    ∷ too_deep (rows_of after)
    ∷ url_too_long (rows_of after)
    ∷ rules) ≡ None → IsRoomy pages after parent slug × (first_of rules ≡ None)
roomy pages after parent slug rules none =
    let rows = rows_of after in
    let taken = first_clear (slug_taken pages parent slug) _ none in
    let full = first_clear (steps_full rows) _ taken.1 in
    let deep = first_clear (too_deep rows) _ full.1 in
    let long = first_clear (url_too_long rows) rules deep.1 in (
      record {
        free = slug_clear (kid_with_slug slug (kids_of parent pages)) taken.0;
        steps = rows_within after (test_clear _ StepsFull full.0);
        depth = limit_clear MAX_DEPTH (height after)
            (sym (rows_too_deep after) ∙ test_clear _ TooDeep deep.0);
        urls = urls_clear rows (test_clear _ UrlTooLong long.0);
      },
      long.1,
    )

-- one number is below another or not
pub below_or_not : (a b : ℕ) → (a < b) ⊎ (b ≤ a)
below_or_not a b = choice (nat_lt a b) refl
  where
    choice : (t : Bool) → nat_lt a b ≡ t → (a < b) ⊎ (b ≤ a)
    choice true is = inl (grind (arith, nat_tests, is))
    choice false is = inr (grind (arith, nat_tests, is))

-- an id below all that stand there does not stand there
pub none_lower : {Kept : Type 0} (first j : ℕ) (f : Forest Kept) → j < first →
    AllPages (λ id slug body. first ≤ id) f → count j f ≡ 0
none_lower first j bare lower all = refl
none_lower first j (grown i step slug body kids rest) lower all =
    let above : first ≤ i = all.0 in
    let differs : nat_eq i j ≡ false = grind (arith, nat_tests, lower, above) in
    rw (differs, none_lower first j kids lower all.1, none_lower first j rest lower all.2)
    (omega arith)

-- a page that is there has an id that was given out
pub there_given : (pages : Forest Body) (next id : ℕ) → IsTree pages next →
    has_page id pages ≡ true → id < next
there_given pages next id sound there =
    elim (below_or_not id next) [
      | inl lower ↦ lower
      | inr above ↦
          let none = not_given next id pages above sound.page_ids in
          let some = has_counts id pages there in
          let no : ⊥ = omega (arith, none, some) in absurd no
    ]

-- A page that is put in below a parent, with all below it: the next id was `next`, and then is
-- `last`.
pub record MayGraft (pages : Forest Body) (next last parent n at : ℕ) (slug : List ℕ) (own : Body)
    (below : Forest Body) : Type 0 where
  pub there : has_page parent pages ≡ true
  pub next_page : IsNext LAST_PAGE_ID last
  pub later : next ≤ last
  pub new_ids :
      AllPages (λ id text body. (next ≤ id) × (id < last)) (grown n at slug own below bare)
  pub distinct : (j : ℕ) → count j (grown n at slug own below bare) ≤ 1
  pub rising : AreRising 0 below
  pub slugs :
      AllPages (λ id text body. (id ≡ 1 → ⊥) → IsSlug text) (grown n at slug own below bare)
  pub siblings : SlugsDiffer below
  pub room : IsRoomy pages (graft parent End (grown n at slug own below bare) pages) parent slug

module _ (pages : Forest Body) (next last parent n at : ℕ) (slug : List ℕ) (own : Body)
    (below : Forest Body) (sound : IsTree pages next)
    (may : MayGraft pages next last parent n at slug own below) where
  -- the page that is put in, with all below it
  abbrev node : Forest Body
  node = grown n at slug own below bare

  -- the tree with it
  abbrev after : Forest Body
  after = graft parent End node pages

  -- how often an id stands there
  pub grafted_counts : (j : ℕ) → count j after ≡ count j node + count j pages
  grafted_counts j =
      let most = once pages sound.distinct parent in
      let some = has_counts parent pages may.there in
      let one_parent : count parent pages ≡ 1 = omega (arith, some, most) in
      graft_counts j parent End n at slug own below pages one_parent
      (AtParent-kids parent (IsAmong End) pages most tt)

  -- a page that was there is there
  pub grafted_stays : (id : ℕ) → has_page id pages ≡ true → has_page id after ≡ true
  grafted_stays id there =
      let sum = grafted_counts id in
      let old = has_counts id pages there in
      counts_has id after (omega (arith, sum, old))

  -- a page that is put in is there
  pub grafted_comes : (id : ℕ) → 1 ≤ count id node → has_page id after ≡ true
  grafted_comes id some =
      let sum = grafted_counts id in counts_has id after (omega (arith, sum, some))

  -- no id stands there twice
  grafted_once : (j : ℕ) → count j after ≤ 1
  grafted_once j =
      let sum = grafted_counts j in
      let old = once pages sound.distinct j in
      let new = may.distinct j in
      elim (below_or_not j next) [
        | inl lower ↦
            let none = none_lower next j node lower (AllPages-weaker
            (λ id text body. (next ≤ id) × (id < last)) (λ id text body. next ≤ id) node
            (λ id text body both. both.0) may.new_ids) in
            omega (arith, sum, old, none)
        | inr above ↦
            let none = not_given next j pages above sound.page_ids in
            omega (arith, sum, new, none)
      ]

  -- the tree with the page that is put in is one
  pub tree_grafted : IsTree after last
  tree_grafted =
      let first = sound.next_page.0 in
      let later = may.later in
      let room = may.room in
      record {
        whole = whole-graft parent End node pages sound.whole;
        distinct = distinct_ids after grafted_once;
        next_page = may.next_page;
        page_ids = AllPages-graft (λ id text body. IsGiven last id) parent End node pages
            (AllPages-weaker (λ id text body. (next ≤ id) × (id < last))
            (λ id text body. IsGiven last id) node
            (λ id text body both. (omega (arith, both.0, first), both.1)) may.new_ids)
            (AllPages-weaker (λ id text body. IsGiven next id) (λ id text body. IsGiven last id)
            pages (λ id text body given. (given.0, omega (arith, given.1, later)))
            sound.page_ids);
        rising = AreRising-graft n at slug own below parent 0 End pages may.rising sound.rising;
        steps = room.steps;
        depth = room.depth;
        urls = room.urls;
        slugs = AllPages-graft (λ id text body. (id ≡ 1 → ⊥) → IsSlug text) parent End node pages
            may.slugs sound.slugs;
        siblings = SlugsDiffer-graft n at slug own below parent End pages may.siblings
            (AtParent-kids parent (λ kids. kid_with_slug slug kids ≡ None) pages
            (once pages sound.distinct parent) room.free) sound.siblings;
      }

  -- the regular pages that were there are regular
  pub regular_grafted : KeepRegular pages after
  regular_grafted one regular = (
    regular.0,
    grafted_stays one regular.1,
    AllPages-graft (λ id text body. id ≡ one → body.source ≡ None) parent End node pages
        (AllPages-weaker (λ id text body. (next ≤ id) × (id < last))
        (λ id text body. id ≡ one → body.source ≡ None) node
        (λ id text body both same. absurd (not_old id one both.0 same
        (there_given pages next one sound regular.1))) may.new_ids)
        regular.2,
  )
    where
      not_old : (id old : ℕ) → next ≤ id → id ≡ old → old < next → ⊥
      not_old id old above same lower = omega (arith, above, same, lower)
