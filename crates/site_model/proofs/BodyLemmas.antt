-- Another body for one page changes nothing else of a tree, and what is found of a page is its own
-- body.
use Rattle.std.proofs.Common.{◌≡◌, ◌+◌, ◌≤◌, ℕ, Bool, true, false, cond, nat_eq, List, [], ◌∷◌, ◌++◌, length, ◌⊎◌, inl, inr, Option, None, refl, sym, ap, subst, Some, arith}
use Rattle.std.specs.List.{AllByRecursion}
use Rattle.page_tree.specs.Tree.{Forest, bare, grown, AreRising, has_page, kid_with_slug, node_of, or_else}
use Rattle.page_tree.specs.Rows.{Row, rows_below, child_url}
use Rattle.step_path.specs.declared.step.TheConstants.{LAST_STEP}
use Rattle.site_ids.specs.Slug.{IsSlug}
use Rattle.site_types.specs.declared.body.Body.{Body}
use Rattle.tree_model.specs.Limits.{MAX_URL, height}
use Rattle.tree_model.specs.Shape.{IsWhole, AllPages, AreWithin, SlugsDiffer}
use Rattle.tree_model.proofs.CountLemmas.{one, count, once, distinct_ids, none_or_some, has_counts, counts_has, either, id_found, apart_by_test, node_absent}
use Rattle.tree_model.proofs.PageLemmas.{AllPages-weaker, AllPages-both, AllPages-counted}
use Rattle.tree_model.proofs.SiblingLemmas.{all_append, all_parts}
use Rattle.site_model.specs.Views.{first_body}
use Rattle.site_model.specs.Bodies.{rebodied}
use Rattle.site_model.specs.Sound.{IsTree, IsGiven}

module _ {Kept : Type 0} (id : ℕ) (change : Kept → Kept) where
  -- what holds of each page, and of the page with its new body, holds of each afterwards
  pub AllPages-rebodied : (P : ℕ → List ℕ → Kept → Type 0) (f : Forest Kept) →
      ((slug : List ℕ) (body : Kept) → P id slug body → P id slug (change body)) →
      AllPages P f → AllPages P (rebodied id change f)
  AllPages-rebodied P bare fits all = tt
  AllPages-rebodied P (grown i s slug body kids rest) fits all =
      choice (nat_eq i id) refl (AllPages-rebodied P kids fits all.1)
      (AllPages-rebodied P rest fits all.2)
    where
      choice : (t : Bool) → nat_eq i id ≡ t → AllPages P (rebodied id change kids) →
          AllPages P (rebodied id change rest) → AllPages P (cond t
          (grown i s slug (change body) kids rest)
          (grown i s slug body (rebodied id change kids) (rebodied id change rest)))
      choice true is in_kids in_rest =
          let same = id_found i id is in (
            subst (λ (j : ℕ). P j slug (change body)) (sym same)
                (fits slug body (subst (λ (j : ℕ). P j slug body) same all.0)),
            all.1,
            all.2,
          )
      choice false is in_kids in_rest = (all.0, in_kids, in_rest)

  -- what holds of each page gives what holds of the others, and of the page with its new body
  pub AllPages-changed : (P Q : ℕ → List ℕ → Kept → Type 0) (f : Forest Kept) → count id f ≤ 1 →
      ((slug : List ℕ) (body : Kept) → P id slug body → Q id slug (change body)) →
      ((i : ℕ) (slug : List ℕ) (body : Kept) → (i ≡ id → ⊥) → P i slug body → Q i slug body) →
      AllPages P f → AllPages Q (rebodied id change f)
  AllPages-changed P Q bare most fits stays all = tt
  AllPages-changed P Q (grown i s slug body kids rest) most fits stays all =
      choice (nat_eq i id) refl most
      (λ few. AllPages-changed P Q kids few fits stays all.1)
      (λ few. AllPages-changed P Q rest few fits stays all.2)
    where
      others : (f : Forest Kept) → count id f ≡ 0 → AllPages P f → AllPages Q f
      others f none is = AllPages-both P (λ j slug body. j ≡ id → ⊥) Q f
          (λ j slug body one other. stays j slug body other one) is
          (AllPages-counted (λ j. j ≡ id → ⊥) f
          (λ j some same. let all_of = ap (λ (k : ℕ). count k f) same in
          omega (arith, some, all_of, none)))

      choice : (t : Bool) → nat_eq i id ≡ t → one t + (count id kids + count id rest) ≤ 1 →
          (count id kids ≤ 1 → AllPages Q (rebodied id change kids)) →
          (count id rest ≤ 1 → AllPages Q (rebodied id change rest)) → AllPages Q (cond t
          (grown i s slug (change body) kids rest)
          (grown i s slug body (rebodied id change kids) (rebodied id change rest)))
      choice true is few in_kids in_rest =
          let same = id_found i id is in (
            subst (λ (j : ℕ). Q j slug (change body)) (sym same)
                (fits slug body (subst (λ (j : ℕ). P j slug body) same all.0)),
            others kids (omega (arith, few)) all.1,
            others rest (omega (arith, few)) all.2,
          )
      choice false is few in_kids in_rest = (
        stays i slug body (apart_by_test i id is) all.0,
        in_kids (omega (arith, few)),
        in_rest (omega (arith, few)),
      )

  -- the same pages stand there
  pub count-rebodied : (j : ℕ) (f : Forest Kept) → count j (rebodied id change f) ≡ count j f
  count-rebodied j bare = refl
  count-rebodied j (grown i s slug body kids rest) =
      let below = count-rebodied j kids in
      let after = count-rebodied j rest in
      either (λ g. count j g ≡ count j (grown i s slug body kids rest)) (nat_eq i id)
      (grown i s slug (change body) kids rest)
      (grown i s slug body (rebodied id change kids) (rebodied id change rest)) refl
      (omega (arith, below, after))

  -- the same steps rise
  pub AreRising-rebodied : (before : ℕ) (f : Forest Kept) → AreRising before f →
      AreRising before (rebodied id change f)
  AreRising-rebodied before bare rising = tt
  AreRising-rebodied before (grown i s slug body kids rest) rising =
      either (AreRising before) (nat_eq i id) (grown i s slug (change body) kids rest)
      (grown i s slug body (rebodied id change kids) (rebodied id change rest)) rising
      (rising.0, AreRising-rebodied 0 kids rising.1, AreRising-rebodied s rest rising.2)

  -- no step is above the last
  pub AreWithin-rebodied : (last : ℕ) (f : Forest Kept) → AreWithin last f →
      AreWithin last (rebodied id change f)
  AreWithin-rebodied last bare all = tt
  AreWithin-rebodied last (grown i s slug body kids rest) all =
      either (AreWithin last) (nat_eq i id) (grown i s slug (change body) kids rest)
      (grown i s slug body (rebodied id change kids) (rebodied id change rest)) all
      (all.0, AreWithin-rebodied last kids all.1, AreWithin-rebodied last rest all.2)

  -- the tree is as deep as it was
  pub height-rebodied : (f : Forest Kept) → height (rebodied id change f) ≡ height f
  height-rebodied bare = refl
  height-rebodied (grown i s slug body kids rest) =
      let below = height-rebodied kids in
      let after = height-rebodied rest in
      either (λ g. height g ≡ height (grown i s slug body kids rest)) (nat_eq i id)
      (grown i s slug (change body) kids rest)
      (grown i s slug body (rebodied id change kids) (rebodied id change rest)) refl
      (rw (below, after) refl)

  -- a slug among siblings is whose it was
  kid-rebodied : (new : List ℕ) (f : Forest Kept) →
      kid_with_slug new (rebodied id change f) ≡ kid_with_slug new f
  kid-rebodied new bare = refl
  kid-rebodied new (grown i s slug body kids rest) =
      either (λ g. kid_with_slug new g ≡ kid_with_slug new (grown i s slug body kids rest))
      (nat_eq i id) (grown i s slug (change body) kids rest)
      (grown i s slug body (rebodied id change kids) (rebodied id change rest)) refl
      (rw (kid-rebodied new rest) refl)

  -- slugs of siblings differ as they did
  pub SlugsDiffer-rebodied : (f : Forest Kept) → SlugsDiffer f →
      SlugsDiffer (rebodied id change f)
  SlugsDiffer-rebodied bare differ = tt
  SlugsDiffer-rebodied (grown i s slug body kids rest) differ =
      either SlugsDiffer (nat_eq i id) (grown i s slug (change body) kids rest)
      (grown i s slug body (rebodied id change kids) (rebodied id change rest)) differ (
        rw (kid-rebodied slug rest) (differ.0),
        SlugsDiffer-rebodied kids differ.1,
        SlugsDiffer-rebodied rest differ.2,
      )

  -- what holds of each URL holds of each afterwards
  pub urls-rebodied : (P : List ℕ → Type 0) (parent : Option ℕ) (path url : List ℕ)
      (f : Forest Kept) →
      AllByRecursion (λ (row : Row Kept). P row.url) (rows_below parent path url f) →
      AllByRecursion (λ (row : Row Kept). P row.url)
      (rows_below parent path url (rebodied id change f))
  urls-rebodied P parent path url bare all = tt
  urls-rebodied P parent path url (grown i s slug body kids rest) all =
      let parts = all_parts _ (rows_below (Some i) (path ++ s ∷ []) (child_url url slug) kids)
      (rows_below parent path url rest) all.1 in
      either (λ f. AllByRecursion (λ (row : Row Kept). P row.url) (rows_below parent path url f))
      (nat_eq i id) (grown i s slug (change body) kids rest)
      (grown i s slug body (rebodied id change kids) (rebodied id change rest)) all (
        all.0,
        all_append _ _ _
            (urls-rebodied P (Some i) (path ++ s ∷ []) (child_url url slug) kids parts.0)
            (urls-rebodied P parent path url rest parts.1),
      )

-- the root stays at the top
whole-rebodied : (id : ℕ) (change : Body → Body) (f : Forest Body) → IsWhole f →
    IsWhole (rebodied id change f)
whole-rebodied id change f whole =
    subst (λ g. IsWhole (rebodied id change g)) (sym whole.is)
    (either IsWhole (nat_eq 1 id) (grown 1 1 [] (change whole.own) whole.kids bare)
    (grown 1 1 [] whole.own (rebodied id change whole.kids) bare)
    (record { own = change whole.own; kids = whole.kids; is = refl })
    (record { own = whole.own; kids = rebodied id change whole.kids; is = refl }))

-- a tree with another body for a page is one as it was
pub tree_rebodied : (pages : Forest Body) (next id : ℕ) (change : Body → Body) →
    IsTree pages next → IsTree (rebodied id change pages) next
tree_rebodied pages next id change sound = record {
  whole = whole-rebodied id change pages sound.whole;
  distinct = distinct_ids (rebodied id change pages) (λ j.
      let same = count-rebodied id change j pages in
      let most = once pages sound.distinct j in omega (arith, same, most));
  next_page = sound.next_page;
  page_ids = AllPages-rebodied id change (λ i slug body. IsGiven next i) pages
      (λ slug body given. given) sound.page_ids;
  rising = AreRising-rebodied id change 0 pages sound.rising;
  steps = AreWithin-rebodied id change LAST_STEP pages sound.steps;
  depth = let same = height-rebodied id change pages in omega (arith, same, sound.depth);
  urls = urls-rebodied id change (λ url. length url ≤ MAX_URL) None [] [] pages sound.urls;
  slugs = AllPages-rebodied id change (λ i slug body. (i ≡ 1 → ⊥) → IsSlug slug) pages
      (λ slug body fits. fits) sound.slugs;
  siblings = SlugsDiffer-rebodied id change pages sound.siblings;
}

-- the same pages are there
pub there-rebodied : (id page : ℕ) (change : Body → Body) (f : Forest Body) →
    has_page page f ≡ true → has_page page (rebodied id change f) ≡ true
there-rebodied id page change f there =
    let some = has_counts page f there in
    let same = count-rebodied id change page f in
    counts_has page (rebodied id change f) (omega (arith, some, same))

-- what stands first in one forest stands first where others come behind
first_stays : (f g : Forest Body) (body : Body) → first_body f ≡ Some body →
    first_body (or_else f g) ≡ Some body
first_stays bare g body is = absurd (cc)
first_stays (grown i step slug own kids rest) g body is = is

-- where no two pages have one id, what is found of a page is what is kept of it
pub AllPages-found : (page : ℕ) (f : Forest Body) → count page f ≤ 1 →
    AllPages (λ id slug body. id ≡ page → first_body (node_of page f) ≡ Some body) f
AllPages-found page bare most = tt
AllPages-found page (grown i s slug body kids rest) most =
    choice (nat_eq i page) refl most (AllPages-found page kids) (AllPages-found page rest)
  where
    Finds : Forest Body → Forest Body → Type 0
    Finds found f = AllPages (λ id slug own. id ≡ page → first_body found ≡ Some own) f

    nowhere : (found f : Forest Body) → count page f ≡ 0 → Finds found f
    nowhere found f none = AllPages-weaker (λ j slug own. j ≡ page → ⊥)
        (λ j slug own. j ≡ page → first_body found ≡ Some own) f
        (λ j slug own other same. absurd (other same))
        (AllPages-counted (λ j. j ≡ page → ⊥) f
        (λ j some same. let all_of = ap (λ (k : ℕ). count k f) same in
        omega (arith, some, all_of, none)))

    behind : (count page rest ≡ 0) ⊎ (1 ≤ count page rest) →
        count page kids + count page rest ≤ 1 → Finds (node_of page rest) rest →
        Finds (or_else (node_of page kids) (node_of page rest)) rest
    behind (inl none) few in_rest =
        nowhere (or_else (node_of page kids) (node_of page rest)) rest none
    behind (inr some) few in_rest =
        rw (node_absent page kids (omega (arith, some, few))) in_rest

    choice : (t : Bool) → nat_eq i page ≡ t → one t + (count page kids + count page rest) ≤ 1 →
        (count page kids ≤ 1 → Finds (node_of page kids) kids) →
        (count page rest ≤ 1 → Finds (node_of page rest) rest) →
        Finds (cond t (grown i s slug body kids bare)
        (or_else (node_of page kids) (node_of page rest))) (grown i s slug body kids rest)
    choice true is few in_kids in_rest =
        let found = grown i s slug body kids bare in (
          (λ same. refl),
          nowhere found kids (omega (arith, few)),
          nowhere found rest (omega (arith, few)),
        )
    choice false is few in_kids in_rest = (
      (λ same. absurd (apart_by_test i page is same)),
      AllPages-weaker (λ j slug own. j ≡ page → first_body (node_of page kids) ≡ Some own)
          (λ j slug own. j ≡ page →
          first_body (or_else (node_of page kids) (node_of page rest)) ≡ Some own) kids
          (λ j slug own found same. first_stays (node_of page kids) (node_of page rest) own
          (found same)) (in_kids (omega (arith, few))),
      behind (none_or_some (count page rest)) (omega (arith, few)) (in_rest (omega (arith, few))),
    )
