-- The parent that a page's row tells is the one below which the page stands.
use Rattle.std.proofs.Common.{◌≡◌, ◌+◌, ◌≤◌, inl, inr, ℕ, Bool, true, false, cond, ◌||◌, List, [], ◌∷◌, ◌++◌, Option, Some, is_some, unwrap_or, nat_eq, refl, sym, subst, ◌∙◌, arith}
use Rattle.std.specs.Option.{option_map, option_and_then}
use Rattle.page_tree.specs.Tree.{Forest, bare, grown, or_else, kids_of, node_of, without}
use Rattle.page_tree.specs.Walk.{kid_count}
use Rattle.page_tree.specs.Rows.{Row, rows_below, row_with, child_url}
use Rattle.page_tree.proofs.RowLemmas.{find-append, has_page-rows}
use Rattle.tree_model.proofs.CountLemmas.{one, count, none_or_some, not_first, or_bare, either, apart_by_test, counts_has, none_has, node_absent, IsNode, node_found}
use Rattle.tree_model.proofs.PlaceLemmas.{has_kid, kids_absent, not_both}

-- a test that would make equal what differs fails
not_here : (test : Bool) (q p : ℕ) → (q ≡ p → ⊥) → (test ≡ true → q ≡ p) → test ≡ false
not_here false q p other same = refl
not_here true q p other same = absurd (other (same refl))

module _ {Body : Type 0} where
  -- Wherever the page t stands, its parent is p, where that of the pages at the top is q.
  abbrev pub ParentIs : ℕ → ℕ → ℕ → Forest Body → Type 0
  ParentIs t p q bare = Unit {0}
  ParentIs t p q (grown i step slug body kids rest) =
      (nat_eq i t ≡ true → q ≡ p) × ParentIs t p i kids × ParentIs t p q rest

  -- a page that stands nowhere
  pub ParentIs-absent : (t p q : ℕ) (f : Forest Body) → count t f ≡ 0 → ParentIs t p q f
  ParentIs-absent t p q bare none = tt
  ParentIs-absent t p q (grown i step slug body kids rest) none = (
    λ is. absurd (not_both (nat_eq i t) is (not_first t i (count t kids + count t rest) none)),
    ParentIs-absent t p i kids (omega arith),
    ParentIs-absent t p q rest (omega arith),
  )

  -- a cut keeps the parents of the others
  pub ParentIs-without : (t p q id : ℕ) (f : Forest Body) → ParentIs t p q f →
      ParentIs t p q (without id f)
  ParentIs-without t p q id bare under = tt
  ParentIs-without t p q id (grown i step slug body kids rest) under =
      either (ParentIs t p q) (nat_eq i id) rest
      (grown i step slug body (without id kids) (without id rest)) under.2 (
        under.0,
        ParentIs-without t p i id kids under.1,
        ParentIs-without t p q id rest under.2,
      )

  -- the parent that a row tells, or 0
  abbrev pub parent_told : Option (Row Body) → ℕ
  parent_told found = unwrap_or (option_and_then (λ (row : Row Body). row.parent) found) 0

  -- the row of a page that stands nowhere is not found
  pub no_row : (t : ℕ) (q : Option ℕ) (path url : List ℕ) (f : Forest Body) → count t f ≡ 0 →
      is_some (row_with t (rows_below q path url f)) ≡ false
  no_row t q path url f none = sym (has_page-rows t q path url f) ∙ none_has t f none

  -- the row of a page that stands somewhere is found
  pub some_row : (t : ℕ) (q : Option ℕ) (path url : List ℕ) (f : Forest Body) → 1 ≤ count t f →
      is_some (row_with t (rows_below q path url f)) ≡ true
  some_row t q path url f some = sym (has_page-rows t q path url f) ∙ counts_has t f some

  -- The parent that the page's row tells is the page's, where it stands once at most.
  pub parent_found : (t p : ℕ) (q : Option ℕ) (path url : List ℕ) (f : Forest Body) →
      count t f ≤ 1 → parent_told (row_with t (rows_below q path url f)) ≡ p →
      ParentIs t p (unwrap_or q 0) f
  parent_found t p q path url bare once is = tt
  parent_found t p q path url (grown i s slug body kids rest) once is =
      let both = find-append (λ (row : Row Body). nat_eq row.id t)
      (rows_below (Some i) (path ++ s ∷ []) (child_url url slug) kids)
      (rows_below q path url rest) in
      choice (nat_eq i t) refl once
      (parent_found t p (Some i) (path ++ s ∷ []) (child_url url slug) kids)
      (parent_found t p q path url rest) (rw both at is)
    where
      choice : (a : Bool) → nat_eq i t ≡ a → one a + (count t kids + count t rest) ≤ 1 →
          (count t kids ≤ 1 → parent_told
          (row_with t (rows_below (Some i) (path ++ s ∷ []) (child_url url slug) kids)) ≡ p →
          ParentIs t p i kids) →
          (count t rest ≤ 1 → parent_told (row_with t (rows_below q path url rest)) ≡ p →
          ParentIs t p (unwrap_or q 0) rest) →
          parent_told (cond a
          (Some (record {
            id = i;
            parent = q;
            path = path ++ s ∷ [];
            url = child_url url slug;
            slug = slug;
            numchild = kid_count kids;
            body = body;
          }))
          (cond (is_some
          (row_with t (rows_below (Some i) (path ++ s ∷ []) (child_url url slug) kids)))
          (row_with t (rows_below (Some i) (path ++ s ∷ []) (child_url url slug) kids))
          (row_with t (rows_below q path url rest)))) ≡ p →
          (nat_eq i t ≡ true → unwrap_or q 0 ≡ p) × ParentIs t p i kids ×
          ParentIs t p (unwrap_or q 0) rest
      choice true at most in_kids in_rest told = (
        λ found. told,
        ParentIs-absent t p i kids (omega arith),
        ParentIs-absent t p (unwrap_or q 0) rest (omega arith),
      )
      choice false at most in_kids in_rest told = elim (none_or_some (count t kids)) [
        | inl none ↦
            let missing = no_row t (Some i) (path ++ s ∷ []) (child_url url slug) kids none in (
              λ found. absurd (not_both (nat_eq i t) found at),
              ParentIs-absent t p i kids none,
              in_rest (omega arith) (rw missing at told),
            )
        | inr some ↦
            let there = some_row t (Some i) (path ++ s ∷ []) (child_url url slug) kids some in (
              λ found. absurd (not_both (nat_eq i t) found at),
              in_kids (omega arith) (rw there at told),
              ParentIs-absent t p (unwrap_or q 0) rest (omega arith),
            )
      ]

  -- where no page is the parent, and none of the top, the page stands nowhere
  pub none_below : (t p q : ℕ) (f : Forest Body) → (q ≡ p → ⊥) → count p f ≡ 0 →
      ParentIs t p q f → count t f ≡ 0
  none_below t p q bare other none under = refl
  none_below t p q (grown i step slug body kids rest) other none under =
      let first = not_here (nat_eq i t) q p other under.0 in
      let apart = apart_by_test i p (not_first p i (count p kids + count p rest) none) in
      let below = none_below t p i kids apart (omega arith) under.1 in
      let after = none_below t p q rest other (omega arith) under.2 in
      rw (first, below, after) (omega arith)

  -- one of the top pages has the parent of the top
  pub kid_parent : (t p q : ℕ) (f : Forest Body) → ParentIs t p q f → has_kid t f ≡ true → q ≡ p
  kid_parent t p q bare under is = absurd (cc)
  kid_parent t p q (grown i step slug body kids rest) under is =
      choice (nat_eq i t) under.0 (kid_parent t p q rest under.2) is
    where
      choice : (a : Bool) → (a ≡ true → q ≡ p) → (has_kid t rest ≡ true → q ≡ p) →
          (a || has_kid t rest) ≡ true → q ≡ p
      choice true here later found = here refl
      choice false here later found = later found

  -- where no page is the parent, the page is one of the top
  top_kid : (t p q : ℕ) (f : Forest Body) → count p f ≡ 0 → ParentIs t p q f →
      1 ≤ count t f → has_kid t f ≡ true
  top_kid t p q bare none under some = let no : ⊥ = omega arith in absurd no
  top_kid t p q (grown i step slug body kids rest) none under some =
      let apart = apart_by_test i p (not_first p i (count p kids + count p rest) none) in
      let below = none_below t p i kids apart (omega arith) under.1 in
      choice (nat_eq i t) below (top_kid t p q rest (omega arith) under.2) some
    where
      choice : (a : Bool) → count t kids ≡ 0 → (1 ≤ count t rest → has_kid t rest ≡ true) →
          1 ≤ one a + (count t kids + count t rest) → (a || has_kid t rest) ≡ true
      choice true below later found = refl
      choice false below later found = later (omega arith)

  -- A page is among the children of its parent.
  pub kid_found : (t p q : ℕ) (f : Forest Body) → (q ≡ p → ⊥) → count p f ≤ 1 →
      ParentIs t p q f → 1 ≤ count t f → has_kid t (kids_of p f) ≡ true
  kid_found t p q bare other most under some = let no : ⊥ = omega arith in absurd no
  kid_found t p q (grown i step slug body kids rest) other most under some =
      let first = not_here (nat_eq i t) q p other under.0 in
      let found = rw first at some in
      choice (nat_eq i p) refl most (omega (arith, found))
      (λ apart once. kid_found t p i kids apart once under.1)
      (λ once. kid_found t p q rest other once under.2)
    where
      choice : (a : Bool) → nat_eq i p ≡ a → one a + (count p kids + count p rest) ≤ 1 →
          1 ≤ count t kids + count t rest →
          ((i ≡ p → ⊥) → count p kids ≤ 1 → 1 ≤ count t kids →
          has_kid t (kids_of p kids) ≡ true) →
          (count p rest ≤ 1 → 1 ≤ count t rest → has_kid t (kids_of p rest) ≡ true) →
          has_kid t (cond a kids (or_else (kids_of p kids) (kids_of p rest))) ≡ true
      choice true at once found in_kids in_rest =
          let after = none_below t p q rest other (omega arith) under.2 in
          top_kid t p i kids (omega arith) under.1 (omega (arith, after))
      choice false at once found in_kids in_rest = elim (none_or_some (count p kids)) [
        | inl none ↦
            let gone = kids_absent p kids none in
            let below = none_below t p i kids (apart_by_test i p at) none under.1 in
            rw gone (in_rest (omega arith) (omega (arith, below)))
        | inr some_parent ↦
            let gone = kids_absent p rest (omega arith) in
            let after = none_below t p q rest other (omega arith) under.2 in
            rw (gone, or_bare (kids_of p kids))
            (in_kids (apart_by_test i p at) (omega arith) (omega (arith, after)))
      ]

  -- the slug of a page that stands alone
  abbrev pub slug_told : Forest Body → List ℕ
  slug_told bare = []
  slug_told (grown i step slug body kids rest) = slug

  -- the first of two tells its slug
  first_slug : (id : ℕ) (f g : Forest Body) → IsNode id f →
      slug_told (or_else f g) ≡ slug_told f
  first_slug id f g node =
      subst (λ h. slug_told (or_else h g) ≡ slug_told h) (sym node.is) refl

  -- The slug that the page's row tells is that of the page that is cut out.
  pub slug_found : (id : ℕ) (q : Option ℕ) (path url : List ℕ) (f : Forest Body) →
      unwrap_or (option_map (λ (row : Row Body). row.slug)
      (row_with id (rows_below q path url f))) [] ≡ slug_told (node_of id f)
  slug_found id q path url bare = refl
  slug_found id q path url (grown i s slug body kids rest) =
      let both = find-append (λ (row : Row Body). nat_eq row.id id)
      (rows_below (Some i) (path ++ s ∷ []) (child_url url slug) kids)
      (rows_below q path url rest) in
      rw both (choice (nat_eq i id)
      (slug_found id (Some i) (path ++ s ∷ []) (child_url url slug) kids)
      (slug_found id q path url rest))
    where
      choice : (a : Bool) →
          unwrap_or (option_map (λ (row : Row Body). row.slug)
          (row_with id (rows_below (Some i) (path ++ s ∷ []) (child_url url slug) kids))) [] ≡
          slug_told (node_of id kids) →
          unwrap_or (option_map (λ (row : Row Body). row.slug)
          (row_with id (rows_below q path url rest))) [] ≡ slug_told (node_of id rest) →
          unwrap_or (option_map (λ (row : Row Body). row.slug)
          (cond a
          (Some (record {
            id = i;
            parent = q;
            path = path ++ s ∷ [];
            url = child_url url slug;
            slug = slug;
            numchild = kid_count kids;
            body = body;
          }))
          (cond (is_some
          (row_with id (rows_below (Some i) (path ++ s ∷ []) (child_url url slug) kids)))
          (row_with id (rows_below (Some i) (path ++ s ∷ []) (child_url url slug) kids))
          (row_with id (rows_below q path url rest))))) [] ≡
          slug_told (cond a (grown i s slug body kids bare)
          (or_else (node_of id kids) (node_of id rest)))
      choice true in_kids in_rest = refl
      choice false in_kids in_rest = elim (none_or_some (count id kids)) [
        | inl none ↦
            let missing = no_row id (Some i) (path ++ s ∷ []) (child_url url slug) kids none in
            rw (missing, node_absent id kids none) in_rest
        | inr some ↦
            let there = some_row id (Some i) (path ++ s ∷ []) (child_url url slug) kids some in
            rw (there, first_slug id (node_of id kids) (node_of id rest) (node_found id kids some))
            in_kids
      ]

  -- the children of a page are those of the page that is cut out
  pub kids_of-node : (id : ℕ) (f : Forest Body) → count id f ≤ 1 →
      kids_of id f ≡ kids_of id (node_of id f)
  kids_of-node id bare once = refl
  kids_of-node id (grown i s slug body kids rest) once =
      choice (nat_eq i id) refl once (kids_of-node id kids) (kids_of-node id rest)
    where
      choice : (a : Bool) → nat_eq i id ≡ a → one a + (count id kids + count id rest) ≤ 1 →
          (count id kids ≤ 1 → kids_of id kids ≡ kids_of id (node_of id kids)) →
          (count id rest ≤ 1 → kids_of id rest ≡ kids_of id (node_of id rest)) →
          cond a kids (or_else (kids_of id kids) (kids_of id rest)) ≡
          kids_of id (cond a (grown i s slug body kids bare)
          (or_else (node_of id kids) (node_of id rest)))
      choice true at most in_kids in_rest = rw at refl
      choice false at most in_kids in_rest = elim (none_or_some (count id kids)) [
        | inl none ↦
            rw (kids_absent id kids none, node_absent id kids none) (in_rest (omega arith))
        | inr some ↦
            let none : count id rest ≡ 0 = omega arith in
            rw (
              kids_absent id rest none,
              node_absent id rest none,
              or_bare (kids_of id kids),
              or_bare (node_of id kids),
            ) (in_kids (omega arith))
      ]
