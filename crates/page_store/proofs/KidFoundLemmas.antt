-- The kid that is looked up is the one that the rows have.
use Rattle.std.proofs.Common.{◌≡◌, ◌∙◌, ℕ, Bool, true, false, cond, nat_eq, ◌&&◌, ◌||◌, List, [], ◌∷◌, Option, Some, None, find, refl, ap, sym, subst, arith}
use Rattle.std.proofs.lemmas.Bool.Decides.{nat_tests}
use Rattle.std.specs.Option.{option_map, option_map_or, IfSome}
use Rattle.std.specs.List.{list_any}
use Rattle.std.specs.Str.{bytes_eq}
use Rattle.std.specs.Map.{lookup}
use Rattle.page_tree.specs.Rows.{is_parent, row_with, kid_named}
use Rattle.page_store.specs.declared.stored.StoredRow.{StoredRow}
use Rattle.page_store.specs.declared.kid_index.KidIndex.{KidIndex}
use Rattle.page_store.specs.declared.kid_index.KidKey.{KidKey}
use Rattle.page_store.specs.Pages.{Page, EachPair, HasOtherSlug}
use Rattle.page_store.specs.Kept.{seen, IsKept}
use Rattle.page_store.specs.KidIndex.{key_eq, kid_key, keys_of, own_key, is_indexed, is_kid, first_passing, kid_found}
use Rattle.page_store.proofs.SeenLemmas.{All-find, kept_of_own_id}
use Rattle.page_store.proofs.KeptLemmas.{found_passes}
use Rattle.page_store.proofs.SlugRows.{kid_passes}
use Rattle.page_store.proofs.FindLemmas.{find_misses}

-- whether a row is the kid of a page with a slug
abbrev kid_test : ℕ → List ℕ → Page → Bool
kid_test parent slug row = is_parent parent row.parent && bytes_eq row.slug slug

-- of two searches by kid and by id the first finds no other page, where siblings have different slugs
one_kid : (parent : ℕ) (slug : List ℕ) (id : ℕ) (rows : List Page) (row : Page) →
    EachPair HasOtherSlug rows → row_with id rows ≡ Some row → kid_test parent slug row ≡ true →
    find (kid_test parent slug) rows ≡ Some row
one_kid parent slug id [] row own found passes = absurd cc
one_kid parent slug id (one ∷ rows) row own found passes =
    by (nat_eq one.id id) (kid_test parent slug one) refl found (one_kid parent slug id rows row own.1)
  where
    by : (t u : Bool) → kid_test parent slug one ≡ u → cond t (Some one) (row_with id rows) ≡ Some row →
        (row_with id rows ≡ Some row → kid_test parent slug row ≡ true →
        find (kid_test parent slug) rows ≡ Some row) →
        cond u (Some one) (find (kid_test parent slug) rows) ≡ Some row
    by true true e h more = h
    by true false e h more =
        let same : one ≡ row = cc in
        let never : false ≡ true = sym e ∙ ap (kid_test parent slug) same ∙ passes in absurd cc
    by false true e h more =
        let first = kid_passes parent slug one.parent one.slug e in
        let second = kid_passes parent slug row.parent row.slug passes in
        absurd (All-find (HasOtherSlug one) (λ (r : Page). nat_eq r.id id) rows row own.0 h (second.0
        ∙ sym first.0) (second.1 ∙ sym first.1))
    by false false e h more = more h passes

module _ (stored : List (ℕ × StoredRow)) (order : List ℕ) (kids : KidIndex) (pages : List Page)
    (kept : IsKept stored order kids pages) (parent : ℕ) (slug : List ℕ) where
  -- a page that is kept as the kid is the kid of the rows
  kid_is : (id : ℕ) → is_kid stored parent slug id ≡ true → kid_named parent slug pages ≡ Some id
  kid_is id h = by (lookup (nat_eq id) stored) refl h
    where
      by : (o : Option StoredRow) → lookup (nat_eq id) stored ≡ o →
          option_map_or (λ page. is_parent parent page.parent && bytes_eq page.row.slug slug) o false
          ≡ true → kid_named parent slug pages ≡ Some id
      by None e h = absurd cc
      by (Some page) e h =
          let found : row_with id pages ≡ Some (seen page) = kept.found id ∙ ap (option_map seen) e in
          let test : nat_eq page.row.id id ≡ true =
          found_passes (λ (r : Page). nat_eq r.id id) pages (seen page) found in
          let same : page.row.id ≡ id = grind (arith, nat_tests) in
          ap (option_map (λ (r : Page). r.id)) (one_kid parent slug id pages (seen page)
          kept.are_pages.own_slugs found h) ∙ ap Some same

  -- and the other way round; it has the key of the slug
  is_kept : (id : ℕ) → kid_named parent slug pages ≡ Some id →
      (is_kid stored parent slug id ≡ true) × (keys_of stored id ≡ Some (kid_key parent slug))
  is_kept id h = by (find (kid_test parent slug) pages) refl h
    where
      key : (page : StoredRow) → is_parent parent page.parent && bytes_eq page.row.slug slug ≡ true →
          own_key (Some page) ≡ Some (kid_key parent slug)
      key page passes =
          let is = kid_passes parent slug page.parent page.row.slug passes in
          ap (option_map (λ p. kid_key p page.row.slug)) is.0
          ∙ ap (λ (text : List ℕ). Some (kid_key parent text)) is.1

      stored_kid : (row : Page) (o : Option StoredRow) → lookup (nat_eq row.id) stored ≡ o →
          option_map seen o ≡ Some row → kid_test parent slug row ≡ true →
          (is_kid stored parent slug row.id ≡ true) × (keys_of stored row.id ≡ Some (kid_key parent
          slug))
      stored_kid row None e is passes = absurd cc
      stored_kid row (Some page) e is passes =
          let same : seen page ≡ row = cc in
          let own : kid_test parent slug (seen page) ≡ true = ap (kid_test parent slug) same ∙ passes in
          (rw e own, rw e (key page own))

      by : (o : Option Page) → find (kid_test parent slug) pages ≡ o →
          option_map (λ (r : Page). r.id) o ≡ Some id →
          (is_kid stored parent slug id ≡ true) × (keys_of stored id ≡ Some (kid_key parent slug))
      by None e h = absurd cc
      by (Some row) e h =
          let same : row.id ≡ id = cc in
          let passes : kid_test parent slug row ≡ true = found_passes (kid_test parent slug) pages row e in
          subst (λ (n : ℕ). (is_kid stored parent slug n ≡ true) × (keys_of stored n ≡ Some (kid_key
          parent slug))) same (stored_kid row (lookup (nat_eq row.id) stored) refl (All-find (λ (r :
          Page). option_map seen (lookup (nat_eq r.id) stored) ≡ Some r) (kid_test parent slug) pages
          row (kept_of_own_id stored order kids pages kept) e) passes)

  -- what is looked up passes the test
  passing : (o : Option ℕ) (id : ℕ) → first_passing (is_kid stored parent slug) o kids.clashes.items ≡
      Some id → is_kid stored parent slug id ≡ true
  passing None id h = found_passes (is_kid stored parent slug) kids.clashes.items id h
  passing (Some other) id h = by (is_kid stored parent slug other) refl h
    where
      by : (t : Bool) → is_kid stored parent slug other ≡ t → cond t (Some other) (find (is_kid stored
          parent slug) kids.clashes.items) ≡ Some id → is_kid stored parent slug id ≡ true
      by true e h = let same : other ≡ id = cc in ap (is_kid stored parent slug) (sym same) ∙ e
      by false e h = found_passes (is_kid stored parent slug) kids.clashes.items id h

  -- where nothing is found no page that stands there passes it
  missing : (o : Option ℕ) (id : ℕ) → first_passing (is_kid stored parent slug) o kids.clashes.items ≡
      None → (option_map_or (λ kid. nat_eq kid id) o false || list_any (λ kid. nat_eq kid id)
      kids.clashes.items) ≡ true → is_kid stored parent slug id ≡ true → ⊥
  missing None id h at passes =
      let gone = find_misses (is_kid stored parent slug) id kids.clashes.items passes h in
      cc
  missing (Some other) id h at passes =
      by (is_kid stored parent slug other) (nat_eq other id) refl refl h at
    where
      by : (t u : Bool) → is_kid stored parent slug other ≡ t → nat_eq other id ≡ u →
          cond t (Some other) (find (is_kid stored parent slug) kids.clashes.items) ≡ None →
          (u || list_any (λ kid. nat_eq kid id) kids.clashes.items) ≡ true → ⊥
      by true u e f h at = cc
      by false true e f h at =
          let same : other ≡ id = grind (arith, nat_tests) in
          let never : false ≡ true = sym e ∙ ap (is_kid stored parent slug) same ∙ passes in cc
      by false false e f h at =
          let gone = find_misses (is_kid stored parent slug) id kids.clashes.items passes h in
          cc

  -- the kid that is looked up is the one that the rows have
  pub kid_found-named : kid_found kids stored parent slug ≡ kid_named parent slug pages
  kid_found-named = by (kid_found kids stored parent slug) refl (kid_named parent slug pages) refl
    where
      at : Option ℕ
      at = lookup (key_eq (kid_key parent slug)) kids.keys.entries

      stands : (id : ℕ) → kid_named parent slug pages ≡ Some id →
          is_indexed kids.keys.entries kids.clashes.items id (kid_key parent slug) ≡ true
      stands id h = subst (λ (o : Option KidKey). IfSome o (λ key. is_indexed kids.keys.entries
          kids.clashes.items id key ≡ true)) (is_kept id h).1 (kept.indexed.there id)

      by : (o : Option ℕ) → kid_found kids stored parent slug ≡ o → (n : Option ℕ) →
          kid_named parent slug pages ≡ n → o ≡ n
      by (Some id) e n f = sym (kid_is id (passing at id e)) ∙ f
      by None e None f = refl
      by None e (Some id) f = absurd (missing at id e (stands id f) (is_kept id f).0)
