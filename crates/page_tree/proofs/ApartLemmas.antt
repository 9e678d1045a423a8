-- Pages with distinct ids, told page by page.
use Rattle.std.proofs.Common.{◌≡◌, ℕ, false, List, [], ◌∷◌, ◌++◌, Option, Some, nat_eq, sym, arith}
use Rattle.std.specs.List.{AllByRecursion, IsDistinct}
use Rattle.std.proofs.lemmas.Bool.Decides.{nat_tests}
use Rattle.page_tree.specs.Tree.{Forest, bare, grown, AllIds, ids_of, HasDistinctIds}
use Rattle.page_tree.specs.Rows.{Row, rows_below, child_url}
use Rattle.page_tree.proofs.ListLemmas.{all_weaker, all_both, all_append, all_parts, all_always}
use Rattle.page_tree.proofs.RowLemmas.{AllIds-ids_of}

-- each page's id is another than this
abbrev pub Lacks : {Body : Type 0} → ℕ → Forest Body → Type 0
Lacks id f = AllIds (λ i. i ≡ id → ⊥) f

-- numbers that a test tells apart are not equal
pub apart_by_test : (x y : ℕ) → nat_eq x y ≡ false → y ≡ x → ⊥
apart_by_test x y h e = grind (arith, nat_tests)

-- Two lists whose numbers are distinct together.
pub record AreDistinctParts (xs ys : List ℕ) : Type 0 where
  pub front : IsDistinct nat_eq xs
  pub back : IsDistinct nat_eq ys
  pub apart : AllByRecursion (λ y. AllByRecursion (λ x. x ≡ y → ⊥) xs) ys

-- each part of a list of distinct numbers is distinct, and apart from the other
pub distinct_parts : (xs ys : List ℕ) → IsDistinct nat_eq (xs ++ ys) → AreDistinctParts xs ys
unfolding IsDistinct
distinct_parts [] ys h = record { front = tt; back = h; apart = all_always _ ys (λ y. tt) }
distinct_parts (x ∷ xs) ys h =
    let heads = all_parts (λ y. nat_eq x y ≡ false) xs ys h.0 in
    let more = distinct_parts xs ys h.1 in
    record {
      front = (heads.0, more.front);
      back = more.back;
      apart =
          all_both (λ y. nat_eq x y ≡ false) (λ y. AllByRecursion (λ z. z ≡ y → ⊥) xs)
          (λ y. AllByRecursion (λ z. z ≡ y → ⊥) (x ∷ xs)) ys
          (λ y t rest. ((λ e. apart_by_test x y t (sym e)), rest)) heads.1 more.apart;
    }

module _ {Body : Type 0} where
  -- no id stands twice, told page by page
  abbrev pub AreApart : Forest Body → Type 0
  AreApart bare = Unit {0}
  AreApart (grown i step slug body kids rest) =
      (Lacks i kids × Lacks i rest × AllIds (λ j. Lacks j kids) rest)
      × AreApart kids
      × AreApart rest

  -- distinct ids are apart, page by page
  pub AreApart-distinct : (f : Forest Body) → HasDistinctIds f → AreApart f
  unfolding IsDistinct
  AreApart-distinct bare h = tt
  AreApart-distinct (grown i step slug body kids rest) h =
      let others =
      all_weaker (λ j. nat_eq i j ≡ false) (λ j. j ≡ i → ⊥) (ids_of kids ++ ids_of rest)
      (apart_by_test i) h.0 in
      let sides = all_parts (λ j. j ≡ i → ⊥) (ids_of kids) (ids_of rest) others in
      let parts = distinct_parts (ids_of kids) (ids_of rest) h.1 in
      let between =
      all_weaker (λ j. AllByRecursion (λ k. k ≡ j → ⊥) (ids_of kids))
      (λ j. AllIds (λ k. k ≡ j → ⊥) kids) (ids_of rest)
      (λ j all. AllIds-ids_of (λ k. k ≡ j → ⊥) kids all) parts.apart in (
        (
          AllIds-ids_of (λ j. j ≡ i → ⊥) kids sides.0,
          AllIds-ids_of (λ j. j ≡ i → ⊥) rest sides.1,
          AllIds-ids_of (λ j. AllIds (λ k. k ≡ j → ⊥) kids) rest between,
        ),
        AreApart-distinct kids parts.front,
        AreApart-distinct rest parts.back,
      )

  -- what holds of each page's id holds of each row's
  pub rows_ids : (P : ℕ → Type 0) (parent : Option ℕ) (path url : List ℕ) (f : Forest Body) →
      AllIds P f → AllByRecursion (λ (row : Row Body). P row.id) (rows_below parent path url f)
  rows_ids P parent path url bare all = tt
  rows_ids P parent path url (grown i s slug body kids rest) all = (
    all.0,
    all_append _ _ _ (rows_ids P (Some i) (path ++ s ∷ []) (child_url url slug) kids all.1)
        (rows_ids P parent path url rest all.2),
  )
