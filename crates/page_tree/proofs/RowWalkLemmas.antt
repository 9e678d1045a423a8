-- In a tree with distinct ids each row's path and URL are those of the walk to its page.
use Rattle.std.proofs.Common.{◌≡◌, ℕ, Bool, true, false, cond, List, [], ◌∷◌, ◌++◌, map, drop, Option, Some, None, nat_eq, refl, sym, ap, ◌∙◌, arith, append_assoc}
use Rattle.std.specs.List.{AllByRecursion, IsDistinct}
use Rattle.std.proofs.lemmas.Bool.Decides.{nat_tests}
use Rattle.std.proofs.lemmas.List.{append-nil}
use Rattle.page_tree.specs.Tree.{Forest, bare, grown, AllIds, ids_of, HasDistinctIds}
use Rattle.page_tree.specs.Walk.{Visit, SLASH, walk, kid_count, first_walk, extended, path_of, url_of}
use Rattle.page_tree.specs.Walking.{slugs_along}
use Rattle.page_tree.specs.Rows.{Row, rows_below, rows_of, child_url}
use Rattle.page_tree.proofs.ListLemmas.{all_weaker, all_both, all_append, all_parts, all_always}
use Rattle.page_tree.proofs.ApartLemmas.{AreApart, AreApart-distinct, rows_ids}
use Rattle.page_tree.proofs.WalkLemmas.{walk-absent}

module _ {Body : Type 0} where
  -- A walk that leads to the page of a row, from below a page with this path and URL.
  record IsWalkTo (path url : List ℕ) (visits : List (Visit Body)) (row : Row Body) : Type 0 where
    pub found : visits ≡ [] → ⊥
    pub path_is : path ++ map (λ (visit : Visit Body). visit.step) visits ≡ row.path
    pub url_is : url ++ slugs_along visits ≡ row.url

  -- a list with an element is not empty
  not_empty : (x : Visit Body) (xs : List (Visit Body)) → x ∷ xs ≡ [] → ⊥
  not_empty x xs e = grind arith

  -- a walk from below a page, with that page before it
  longer_walk :
      (path url : List ℕ) (here : Visit Body) (visits others : List (Visit Body)) (row : Row Body) →
      IsWalkTo (path ++ here.step ∷ []) (child_url url here.slug) visits row →
      IsWalkTo path url (first_walk (extended here visits) others) row
  longer_walk path url here [] others row walked = absurd (walked.found refl)
  longer_walk path url here (visit ∷ visits) others row walked = record {
    found = not_empty here (visit ∷ visits);
    path_is =
        sym (append_assoc path (here.step ∷ []) (map (λ (v : Visit Body). v.step) (visit ∷ visits)))
        ∙ walked.path_is;
    url_is =
        sym (append_assoc url (here.slug ++ SLASH ∷ []) (slugs_along (visit ∷ visits)))
        ∙ (ap (λ text. text ++ slugs_along (visit ∷ visits))
        (sym (append_assoc url here.slug (SLASH ∷ []))) ∙ walked.url_is);
  }

  -- each row below a page tells the walk to its page from there
  rows_walked : (parent : Option ℕ) (path url : List ℕ) (f : Forest Body) → AreApart f →
      AllByRecursion (λ (row : Row Body). IsWalkTo path url (walk row.id f) row)
      (rows_below parent path url f)
  rows_walked parent path url bare apart = tt
  rows_walked parent path url (grown i s slug body kids rest) apart =
      let here : Visit Body =
      record { id = i; step = s; slug = slug; body = body; numchild = kid_count kids } in
      let whole = grown i s slug body kids rest in
      let same : nat_eq i i ≡ true = grind (arith, nat_tests) in
      let P : Row Body → Type 0 = λ row. IsWalkTo path url (walk row.id whole) row in
      let below = rows_below (Some i) (path ++ s ∷ []) (child_url url slug) kids in
      let after = rows_below parent path url rest in
      let first :
      IsWalkTo path url (walk i whole)
      (record {
        id = i;
        parent = parent;
        path = path ++ s ∷ [];
        url = child_url url slug;
        slug = slug;
        numchild = kid_count kids;
        body = body;
      }) =
      rw same (record {
        found = not_empty here [];
        path_is = refl;
        url_is = rw (append-nil (slug ++ SLASH ∷ [])) (sym (append_assoc url slug (SLASH ∷ [])));
      }) in
      let deeper : AllByRecursion P below =
      all_both (λ (row : Row Body). row.id ≡ i → ⊥)
      (λ (row : Row Body). IsWalkTo (path ++ s ∷ []) (child_url url slug)
      (walk row.id kids) row) P below
      (λ row apart_from walked.
      let differs : nat_eq i row.id ≡ false = grind (arith, nat_tests) in
      rw differs (longer_walk path url here (walk row.id kids) (walk row.id rest) row walked))
      (rows_ids (λ j. j ≡ i → ⊥) (Some i) (path ++ s ∷ []) (child_url url slug) kids apart.0.0)
      (rows_walked (Some i) (path ++ s ∷ []) (child_url url slug) kids apart.1) in
      let Q : ℕ → Type 0 = λ j. (j ≡ i → ⊥) × AllIds (λ k. k ≡ j → ⊥) kids in
      let apart_from_both =
      all_both (λ (row : Row Body). row.id ≡ i → ⊥)
      (λ (row : Row Body). AllIds (λ k. k ≡ row.id → ⊥) kids)
      (λ (row : Row Body). Q row.id) after
      (λ row p q. (p, q))
      (rows_ids (λ j. j ≡ i → ⊥) parent path url rest apart.0.1)
      (rows_ids (λ j. AllIds (λ k. k ≡ j → ⊥) kids) parent path url rest apart.0.2) in
      let later : AllByRecursion P after =
      all_both (λ (row : Row Body). Q row.id)
      (λ (row : Row Body). IsWalkTo path url (walk row.id rest) row) P after
      (λ row q walked.
      let apart_from : row.id ≡ i → ⊥ = q.0 in
      let differs : nat_eq i row.id ≡ false = grind (arith, nat_tests) in
      rw (differs, walk-absent row.id kids q.1) walked)
      apart_from_both
      (rows_walked parent path url rest apart.2) in
      (first, all_append P below after deeper later)

  -- the URL that a walk from the root on gives, where the walk leads anywhere
  url_from_root : (t : Bool) (here : Visit Body) (visits : List (Visit Body)) → here.slug ≡ [] →
      (cond t (here ∷ []) (first_walk (extended here visits) []) ≡ [] → ⊥) →
      SLASH ∷ slugs_along (drop 1 (cond t (here ∷ []) (first_walk (extended here visits) [])))
      ≡ slugs_along (cond t (here ∷ []) (first_walk (extended here visits) []))
  url_from_root true here visits empty found = rw empty refl
  url_from_root false here [] empty found = absurd (found refl)
  url_from_root false here (visit ∷ visits) empty found = rw empty refl

  -- each row of a tree tells the path and the URL of its page
  pub rows_of-walk : (own : Body) (kids : Forest Body) →
      HasDistinctIds (grown 1 1 [] own kids bare) →
      AllByRecursion
      (λ (row : Row Body). (path_of row.id (grown 1 1 [] own kids bare) ≡ row.path)
      × (url_of row.id (grown 1 1 [] own kids bare) ≡ row.url))
      (rows_of (grown 1 1 [] own kids bare))
  rows_of-walk own kids distinct =
      let tree = grown 1 1 [] own kids bare in
      let here : Visit Body =
      record { id = 1; step = 1; slug = []; body = own; numchild = kid_count kids } in
      all_weaker (λ (row : Row Body). IsWalkTo [] [] (walk row.id tree) row)
      (λ (row : Row Body). (path_of row.id tree ≡ row.path) × (url_of row.id tree ≡ row.url))
      (rows_of tree)
      (λ row walked. (
        walked.path_is,
        url_from_root (nat_eq 1 row.id) here (walk row.id kids) refl walked.found
            ∙ walked.url_is,
      ))
      (rows_walked None [] [] tree (AreApart-distinct tree distinct))
