-- Which kid of a parent has a slug, where a page is left out.
use Rattle.std.proofs.Common.{◌≡◌, ◌+◌, ◌≤◌, ◌⊎◌, inl, inr, ℕ, Bool, true, false, cond, ◌&&◌, List, [], ◌∷◌, ◌++◌, Option, Some, None, IsSome, is_some, find, nat_eq, refl, sym, ap, ◌∙◌, subst, arith}
use Rattle.std.specs.Option.{option_map, IfSome}
use Rattle.std.specs.Str.{bytes_eq}
use Rattle.page_tree.specs.Tree.{Forest, bare, grown, kid_with_slug, kids_of, node_of, or_else, without}
use Rattle.page_tree.specs.Rows.{Row, child_url, is_parent, kid_named, rows_below, rows_of, row_with}
use Rattle.page_tree.proofs.RowLemmas.{find-append, kid_named-rows}
use Rattle.site_types.specs.declared.body.Body.{Body}
use Rattle.page_store.specs.Pages.{Page, ArePages}
use Rattle.page_store.specs.Search.{begins}
use Rattle.page_store.proofs.InsertLemmas.{same_bytes}
use Rattle.tree_rows.proofs.Apart.{without-lacks, kids_of-lacks}
use Rattle.tree_model.specs.Shape.{SlugsDiffer}
use Rattle.tree_model.proofs.CountLemmas.{one, count, none_or_some, not_first, apart_by_test, id_found, node_absent, or_bare}
use Rattle.slug_urls.specs.Flat.{other_kid, taken_by}
use Rattle.slug_urls.proofs.Counts.{lacks_from_count, count-kids_of, SlugsDiffer-kids_of, stands_once, slugs_differ, not_below}

-- a page is not the parent of those with another one
other_parent : (q : Option ℕ) (p : ℕ) → (q ≡ Some p → ⊥) → is_parent p q ≡ false
other_parent None p other = refl
other_parent (Some k) p other = by (nat_eq k p) refl
  where
    by : (t : Bool) → nat_eq k p ≡ t → nat_eq k p ≡ false
    by true e = absurd (other (ap Some (id_found k p e)))
    by false e = e

-- the number of a parent that differs is another parent
some_other : (i p : ℕ) → nat_eq i p ≡ false → Some i ≡ Some p → ⊥
some_other i p differ both = let same : i ≡ p = cc in apart_by_test i p differ same

-- what is found first, or nothing
first_or_none : {X : Type 0} (o : Option X) → cond (is_some o) o None ≡ o
first_or_none None = refl
first_or_none (Some x) = refl

module _ {Body : Type 0} where
  -- whether a row is that of a kid with the slug
  abbrev is_named : ℕ → List ℕ → Row Body → Bool
  is_named p slug row = is_parent p row.parent && bytes_eq row.slug slug

  -- a page that stands nowhere has no kid
  no_kid : (p : ℕ) (slug : List ℕ) (q : Option ℕ) (path url : List ℕ) (f : Forest Body) →
      (q ≡ Some p → ⊥) → count p f ≡ 0 → find (is_named p slug) (rows_below q path url f) ≡ None
  no_kid p slug q path url bare other none = refl
  no_kid p slug q path url (grown i s own body kids rest) other none =
      let differs = not_first p i (count p kids + count p rest) none in
      let below = no_kid p slug (Some i) (path ++ s ∷ []) (child_url url own) kids
      (some_other i p differs) (omega arith) in
      let behind = no_kid p slug q path url rest other (omega arith) in
      rw (
        other_parent q p other,
        find-append (is_named p slug)
            (rows_below (Some i) (path ++ s ∷ []) (child_url url own) kids) (rows_below q path url
            rest),
        below,
        behind,
      ) refl

  -- A kid with a slug is found in the rows where it is found in the tree.
  kid_in_rows : (p : ℕ) (slug : List ℕ) (q : Option ℕ) (path url : List ℕ) (f : Forest Body) →
      (q ≡ Some p → ⊥) → count p f ≤ 1 →
      kid_named p slug (rows_below q path url f) ≡ kid_with_slug slug (kids_of p f)
  kid_in_rows p slug q path url bare other once = refl
  kid_in_rows p slug q path url (grown i s own body kids rest) other once =
      rw (
        other_parent q p other,
        find-append (is_named p slug)
            (rows_below (Some i) (path ++ s ∷ []) (child_url url own) kids) (rows_below q path url
            rest),
      ) (choice (nat_eq i p) refl once
      (kid_in_rows p slug (Some i) (path ++ s ∷ []) (child_url url own) kids)
      (kid_in_rows p slug q path url rest other))
    where
      choice : (t : Bool) → nat_eq i p ≡ t → one t + (count p kids + count p rest) ≤ 1 →
          ((Some i ≡ Some p → ⊥) → count p kids ≤ 1 →
          kid_named p slug (rows_below (Some i) (path ++ s ∷ []) (child_url url own) kids)
          ≡ kid_with_slug slug (kids_of p kids)) →
          (count p rest ≤ 1 →
          kid_named p slug (rows_below q path url rest) ≡ kid_with_slug slug (kids_of p rest)) →
          option_map (λ (row : Row Body). row.id) (cond
          (is_some (find (is_named p slug)
          (rows_below (Some i) (path ++ s ∷ []) (child_url url own) kids)))
          (find (is_named p slug) (rows_below (Some i) (path ++ s ∷ []) (child_url url own) kids))
          (find (is_named p slug) (rows_below q path url rest)))
          ≡ kid_with_slug slug (cond t kids (or_else (kids_of p kids) (kids_of p rest)))
      choice true is most in_kids in_rest =
          let behind = no_kid p slug q path url rest other (omega arith) in
          let same = id_found i p is in
          let own_kids = kid_named-rows p slug (path ++ s ∷ []) (child_url url own) kids
          (lacks_from_count p kids (omega arith)) in
          rw (
            behind,
            first_or_none (find (is_named p slug)
                (rows_below (Some i) (path ++ s ∷ []) (child_url url own) kids)),
            same,
          ) (sym own_kids)
      choice false is most in_kids in_rest = elim (none_or_some (count p kids)) [
        | inl none ↦
            let below = no_kid p slug (Some i) (path ++ s ∷ []) (child_url url own) kids
            (some_other i p is) none in
            rw (below, kids_of-lacks p kids (lacks_from_count p kids none)) (in_rest (omega arith))
        | inr some ↦
            let none : count p rest ≡ 0 = omega arith in
            let behind = no_kid p slug q path url rest other none in
            rw (
              behind,
              first_or_none (find (is_named p slug)
                  (rows_below (Some i) (path ++ s ∷ []) (child_url url own) kids)),
              kids_of-lacks p rest (lacks_from_count p rest none),
              or_bare (kids_of p kids),
            ) (in_kids (some_other i p is) (omega arith))
      ]

  -- the first of two without a page, where one of them is bare
  without-or_else : (j : ℕ) (f g : Forest Body) → (f ≡ bare) ⊎ (g ≡ bare) →
      or_else (without j f) (without j g) ≡ without j (or_else f g)
  without-or_else j f g (inl none) = rw none refl
  without-or_else j f g (inr none) =
      rw (none, or_bare (without j f), or_bare f) refl

  -- one of two parts has no such kids
  one_bare : (p : ℕ) (kids rest : Forest Body) → count p kids + count p rest ≤ 1 →
      (kids_of p kids ≡ bare) ⊎ (kids_of p rest ≡ bare)
  one_bare p kids rest most = elim (none_or_some (count p kids)) [
    | inl none ↦ inl (kids_of-lacks p kids (lacks_from_count p kids none))
    | inr some ↦ inr (kids_of-lacks p rest (lacks_from_count p rest (omega arith)))
  ]

  -- the first of two has an id no more often than both
  apart_nodes : (p j : ℕ) (kids rest : Forest Body) → count j kids + count j rest ≤ 1 →
      count p (or_else (node_of j kids) (node_of j rest)) ≡ 0 →
      (count p (node_of j kids) ≡ 0) × (count p (node_of j rest) ≡ 0)
  apart_nodes p j kids rest most none = elim (none_or_some (count j kids)) [
    | inl absent ↦
        let gone = node_absent j kids absent in
        (ap (count p) gone, rw gone at none)
    | inr some ↦
        let gone = node_absent j rest (omega arith) in
        (rw (gone, or_bare (node_of j kids)) at none, ap (count p) gone)
  ]

  -- The kids of a page, where another page is left out that it is not below.
  kids_without : (p j : ℕ) (f : Forest Body) → count p f ≤ 1 → count j f ≤ 1 →
      count p (node_of j f) ≡ 0 → kids_of p (without j f) ≡ without j (kids_of p f)
  kids_without p j bare once own none = refl
  kids_without p j (grown i s slug body kids rest) once own none =
      choice (nat_eq i j) refl (nat_eq i p) refl once own none (kids_without p j kids)
      (kids_without p j rest)
    where
      choice : (t : Bool) → nat_eq i j ≡ t → (u : Bool) → nat_eq i p ≡ u →
          one u + (count p kids + count p rest) ≤ 1 → one t + (count j kids + count j rest) ≤ 1 →
          count p (cond t (grown i s slug body kids bare) (or_else (node_of j kids) (node_of j
          rest)))
          ≡ 0 →
          (count p kids ≤ 1 → count j kids ≤ 1 → count p (node_of j kids) ≡ 0 →
          kids_of p (without j kids) ≡ without j (kids_of p kids)) →
          (count p rest ≤ 1 → count j rest ≤ 1 → count p (node_of j rest) ≡ 0 →
          kids_of p (without j rest) ≡ without j (kids_of p rest)) →
          kids_of p (cond t rest (grown i s slug body (without j kids) (without j rest)))
          ≡ without j (cond u kids (or_else (kids_of p kids) (kids_of p rest)))
      choice true is true at most only apart in_kids in_rest =
          let no = not_first p i (count p kids + 0) apart in absurd cc
      choice true is false at most only apart in_kids in_rest =
          let few = count-kids_of j p rest in
          let gone = kids_of-lacks p kids (lacks_from_count p kids (omega arith)) in
          let kept = without-lacks j (kids_of p rest) (lacks_from_count j (kids_of p rest) (omega
          arith)) in
          rw (gone, kept) refl
      choice false is true at most only apart in_kids in_rest = rw at refl
      choice false is false at most only apart in_kids in_rest =
          let nodes = apart_nodes p j kids rest (omega arith) apart in
          rw (
            at,
            in_kids (omega arith) (omega arith) nodes.0,
            in_rest (omega arith) (omega arith) nodes.1,
          ) (without-or_else j (kids_of p kids) (kids_of p rest) (one_bare p kids rest (omega
          arith)))

  -- The sibling with a slug, where a page is left out, is one other than that page.
  other_named : (slug : List ℕ) (j : ℕ) (f : Forest Body) → SlugsDiffer f → count j f ≤ 1 →
      kid_with_slug slug (without j f) ≡ other_kid j (kid_with_slug slug f)
  other_named slug j bare differ once = refl
  other_named slug j (grown i s own body kids rest) differ once =
      choice (nat_eq i j) refl (bytes_eq own slug) refl once (other_named slug j rest differ.2)
    where
      choice : (t : Bool) → nat_eq i j ≡ t → (u : Bool) → bytes_eq own slug ≡ u →
          one t + (count j kids + count j rest) ≤ 1 →
          (count j rest ≤ 1 →
          kid_with_slug slug (without j rest) ≡ other_kid j (kid_with_slug slug rest)) →
          kid_with_slug slug (cond t rest (grown i s own body (without j kids) (without j rest)))
          ≡ other_kid j (cond u (Some i) (kid_with_slug slug rest))
      choice true is true at most more =
          let free = subst (λ text. kid_with_slug text rest
          ≡ None) (same_bytes own slug at) differ.0 in
          rw (is, free) refl
      choice true is false at most more =
          let kept = without-lacks j rest (lacks_from_count j rest (omega arith)) in
          ap (kid_with_slug slug) (sym kept) ∙ more (omega arith)
      choice false is true at most more = rw (at, is) refl
      choice false is false at most more = rw at (more (omega arith))

-- The kid that has the slug, where the page is left out, is the one that the rows tell.
pub taken_is : (tree : Forest Body) (page parent : ℕ) (slug : List ℕ) → ArePages (rows_of tree) →
    IsSome (row_with parent (rows_of tree)) →
    IfSome (row_with page (rows_of tree)) (λ row. IfSome (row_with parent (rows_of tree))
    (λ top. begins row.path top.path ≡ false)) →
    kid_with_slug slug (kids_of parent (without page tree))
    ≡ taken_by page parent slug (rows_of tree)
taken_is tree page parent slug are there outside =
    let few = count-kids_of page parent tree in
    let once = stands_once tree are page in
    ap (kid_with_slug slug) (kids_without parent page tree (stands_once tree are parent) once
    (not_below tree are page parent there outside))
    ∙ (other_named slug page (kids_of parent tree)
    (SlugsDiffer-kids_of parent tree (slugs_differ tree are)) (omega (arith, few, once))
    ∙ ap (other_kid page) (sym (kid_in_rows parent slug None [] [] tree (λ no. cc)
    (stands_once tree are parent))))

-- the same, of a kid that is looked up
pub taken_told : (pages : List Page) (tree : Forest Body) (page parent : ℕ) (slug : List ℕ) (found :
    Option ℕ) → ArePages pages → pages ≡ rows_of tree → IsSome (row_with parent pages) →
    IfSome (row_with page pages) (λ row. IfSome (row_with parent pages) (λ top. begins row.path top.path ≡
    false)) → found ≡ taken_by page parent slug pages →
    found ≡ kid_with_slug slug (kids_of parent (without page tree))
taken_told pages tree page parent slug found are is there outside told =
    told ∙ ap (taken_by page parent slug) is ∙ sym (taken_is tree page parent slug (subst ArePages is are)
    (subst (λ (rows : List Page). IsSome (row_with parent rows)) is there) (subst (λ (rows : List Page).
    IfSome (row_with page rows) (λ row. IfSome (row_with parent rows) (λ top. begins row.path top.path ≡
    false))) is outside))
