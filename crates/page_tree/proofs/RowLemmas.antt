-- What the rows of a tree say of the tree: which pages are there, and which slugs siblings have.
use Rattle.std.proofs.Common.{◌≡◌, ℕ, Bool, true, false, List, [], ◌∷◌, ◌++◌, Option, Some, None, ◌==◌, nat_eq, refl, cond, ◌||◌, ◌&&◌, is_some, find, ap, sym, ◌∙◌, arith}
use Rattle.std.specs.Option.{option_map}
use Rattle.std.specs.Str.{bytes_eq}
use Rattle.std.specs.List.{AllByRecursion}
use Rattle.std.proofs.lemmas.Bool.Decides.{nat_tests}
use Rattle.std.proofs.lemmas.List.{map-append}
use Rattle.page_tree.proofs.ListLemmas.{all_parts}
use Rattle.page_tree.specs.Tree.{Forest, bare, grown, has_page, kid_with_slug, AllIds, ids_of}
use Rattle.page_tree.specs.Rows.{Row, rows_below, row_with, is_parent, kid_named, child_url, raise_count, with_kid}

-- a search in two lists, one after the other
pub find-append : {X : Type 0} (p : X → Bool) (xs ys : List X) →
    find p (xs ++ ys) ≡ cond (is_some (find p xs)) (find p xs) (find p ys)
find-append p [] ys = refl
find-append p (x ∷ xs) ys =
    elim (p x) as
    (λ b. cond b (Some x) (find p (xs ++ ys))
    ≡ cond (is_some (cond b (Some x) (find p xs))) (cond b (Some x) (find p xs)) (find p ys)) [
      | true ↦ refl
      | false ↦ find-append p xs ys
    ]

-- whether something is found in one of two lists
is_some_either : {X : Type 0} (a b : Option X) →
    is_some (cond (is_some a) a b) ≡ is_some a || is_some b
is_some_either None b = refl
is_some_either (Some x) b = refl

-- a test is one of the page, of what is below it or of what comes after it
or_from_cond : {X : Type 0} (t : Bool) (x : X) (o : Option X) →
    t || is_some o ≡ is_some (cond t (Some x) o)
or_from_cond true x o = refl
or_from_cond false x o = refl

module _ {Body : Type 0} where
  -- the id of a row that is found, or of one that is found later
  id_of_found : (t : Bool) (row : Row Body) (later : Option (Row Body)) (o : Option ℕ) →
      o ≡ option_map (λ (r : Row Body). r.id) later →
      cond t (Some row.id) o ≡ option_map (λ (r : Row Body). r.id) (cond t (Some row) later)
  id_of_found true row later o h = refl
  id_of_found false row later o h = h

  -- a page is in the tree where it has a row
  pub has_page-rows : (id : ℕ) (parent : Option ℕ) (path url : List ℕ) (f : Forest Body) →
      has_page id f ≡ is_some (row_with id (rows_below parent path url f))
  has_page-rows id parent path url bare = refl
  has_page-rows id parent path url (grown i s slug body kids rest) =
      let below = has_page-rows id (Some i) (path ++ s ∷ []) (child_url url slug) kids in
      let after = has_page-rows id parent path url rest in
      let found =
      find-append (λ (row : Row Body). row.id == id)
      (rows_below (Some i) (path ++ s ∷ []) (child_url url slug) kids)
      (rows_below parent path url rest) in
      rw (below, after) (rw (← is_some_either _ _) (rw (← found) (or_from_cond (nat_eq i id) _ _)))

  -- each page's id has P where each id in the list has
  pub AllIds-ids_of : (P : ℕ → Type 0) (f : Forest Body) → AllByRecursion P (ids_of f) → AllIds P f
  AllIds-ids_of P bare all = tt
  AllIds-ids_of P (grown i s slug body kids rest) all =
      let parts = all_parts P (ids_of kids) (ids_of rest) all.1 in
      (all.0, AllIds-ids_of P kids parts.0, AllIds-ids_of P rest parts.1)

  -- what holds of each id where something stronger does
  pub AllIds-weaker : (P Q : ℕ → Type 0) (f : Forest Body) → ((id : ℕ) → P id → Q id) → AllIds P f →
      AllIds Q f
  AllIds-weaker P Q bare w all = tt
  AllIds-weaker P Q (grown i s slug body kids rest) w all =
      (w i all.0, AllIds-weaker P Q kids w all.1, AllIds-weaker P Q rest w all.2)

  -- no page below another parent is found by its parent
  pub no_kid_named : (p q : ℕ) (slug path url : List ℕ) (f : Forest Body) → (q ≡ p → ⊥) →
      AllIds (λ id. id ≡ p → ⊥) f →
      find (λ row. is_parent p row.parent && bytes_eq row.slug slug)
      (rows_below (Some q) path url f) ≡ None
  no_kid_named p q slug path url bare other apart = refl
  no_kid_named p q slug path url (grown i s own body kids rest) other apart =
      let below = no_kid_named p i slug (path ++ s ∷ []) (child_url url own) kids apart.0 apart.1 in
      let after = no_kid_named p q slug path url rest other apart.2 in
      let differs : nat_eq q p ≡ false = grind (arith, nat_tests) in
      rw (
        differs,
        find-append (λ (row : Row Body). is_parent p row.parent && bytes_eq row.slug slug)
            (rows_below (Some i) (path ++ s ∷ []) (child_url url own) kids)
            (rows_below (Some q) path url rest),
        below,
        after,
      ) refl

  -- a slug among a page's children is found in their rows
  pub kid_named-rows : (p : ℕ) (slug path url : List ℕ) (f : Forest Body) →
      AllIds (λ id. id ≡ p → ⊥) f →
      kid_with_slug slug f ≡ kid_named p slug (rows_below (Some p) path url f)
  kid_named-rows p slug path url bare apart = refl
  kid_named-rows p slug path url (grown i s own body kids rest) apart =
      let below = no_kid_named p i slug (path ++ s ∷ []) (child_url url own) kids apart.0 apart.1 in
      let after = kid_named-rows p slug path url rest apart.2 in
      let same : nat_eq p p ≡ true = grind (arith, nat_tests) in
      rw (
        same,
        find-append (λ (row : Row Body). is_parent p row.parent && bytes_eq row.slug slug)
            (rows_below (Some i) (path ++ s ∷ []) (child_url url own) kids)
            (rows_below (Some p) path url rest),
        below,
      )
      (id_of_found (bytes_eq own slug) _ _ _ after)

  -- one child more of a page changes no row of other pages
  pub raise_count-others : (p : ℕ) (q : Option ℕ) (path url : List ℕ) (f : Forest Body) →
      AllIds (λ id. id ≡ p → ⊥) f →
      raise_count (Some p) (rows_below q path url f) ≡ rows_below q path url f
  raise_count-others p q path url bare apart = refl
  raise_count-others p q path url (grown i s own body kids rest) apart =
      let below = raise_count-others p (Some i) (path ++ s ∷ []) (child_url url own) kids apart.1 in
      let after = raise_count-others p q path url rest apart.2 in
      let differs : nat_eq p i ≡ false = grind (arith, nat_tests) in
      rw (
        differs,
        map-append (λ (row : Row Body). cond (is_parent row.id (Some p)) (with_kid row) row)
            (rows_below (Some i) (path ++ s ∷ []) (child_url url own) kids)
            (rows_below q path url rest),
        below,
        after,
      ) refl

-- a row is found with its id
pub found_id : {Body : Type 0} (id : ℕ) (rows : List (Row Body)) (row : Row Body) →
    row_with id rows ≡ Some row → row.id ≡ id
found_id id [] row found = absurd cc
found_id {Body} id (one ∷ rows) row found =
    by (nat_eq one.id id) refl found (found_id id rows row)
  where
    by : (t : Bool) → nat_eq one.id id ≡ t → cond t (Some one) (row_with id rows) ≡ Some row →
        (row_with id rows ≡ Some row → row.id ≡ id) → row.id ≡ id
    by true e found more =
        let same : one ≡ row = cc in
        let own : one.id ≡ id = grind (arith, nat_tests) in
        ap (λ (r : Row Body). r.id) (sym same) ∙ own
    by false e found more = more found
