-- What is found in a list: it passes the test, stands in the list, and is found again by its id.
use Rattle.std.proofs.Common.{◌≡◌, ◌==◌, ◌&&◌, ℕ, nat_eq, Bool, true, false, cond, List, [], ◌∷◌, map, find, Some, IsSome, refl, ap, subst, arith}
use Rattle.std.specs.List.{AllByRecursion, IsDistinct, Contains}
use Rattle.std.proofs.lemmas.Bool.Decides.{nat_tests}
use Rattle.std.proofs.lemmas.List.Elements.{All-from_recursion, All-contains, Contains-append_right}
use Rattle.page_tree.specs.Rows.{Row, row_with}
use Rattle.site_types.specs.declared.body.Body.{Body}

-- the first of two tests that hold together holds
pub first_holds : (first second : Bool) → first && second ≡ true → first ≡ true
first_holds true second is = refl
first_holds false second is = absurd (cc)

-- the second of two tests that hold together holds
pub second_holds : (first second : Bool) → first && second ≡ true → second ≡ true
second_holds true second is = is
second_holds false second is = absurd (cc)

module _ {A : Type 0} where
  -- what follows for each element
  pub all_weaker : (P Q : A → Type 0) → ((x : A) → P x → Q x) → (xs : List A) →
      AllByRecursion P xs → AllByRecursion Q xs
  all_weaker P Q more [] all = tt
  all_weaker P Q more (x ∷ xs) all = (more x all.0, all_weaker P Q more xs all.1)

  -- the first element stands in a list
  pub first_stands : (x : A) (xs : List A) → Contains (x ∷ xs) x
  first_stands x xs = (0, omega arith, refl)

  -- an element of what follows stands in a list
  pub later_stands : (x y : A) (xs : List A) → Contains xs y → Contains (x ∷ xs) y
  later_stands x y xs there = Contains-append_right (x ∷ []) xs y there

  -- what holds of each element holds of one that stands in the list
  pub of_standing : (P : A → Type 0) (xs : List A) (x : A) → AllByRecursion P xs →
      Contains xs x → P x
  of_standing P xs x all there = All-contains P xs x (All-from_recursion P xs all) there

  -- what is found passes the test
  pub found_passes : (test : A → Bool) (xs : List A) (x : A) → find test xs ≡ Some x →
      test x ≡ true
  found_passes test [] x is = absurd (cc)
  found_passes test (y ∷ xs) x is = by (test y) refl (found_passes test xs x) is
    where
      by : (v : Bool) → test y ≡ v → (find test xs ≡ Some x → test x ≡ true) →
          cond v (Some y) (find test xs) ≡ Some x → test x ≡ true
      by true passes later is = let same : y ≡ x = cc in subst (λ z. test z ≡ true) same passes
      by false fails later is = later is

  -- what is found stands in the list
  pub found_stands : (test : A → Bool) (xs : List A) (x : A) → find test xs ≡ Some x →
      Contains xs x
  found_stands test [] x is = absurd (cc)
  found_stands test (y ∷ xs) x is = by (test y) (found_stands test xs x) is
    where
      by : (v : Bool) → (find test xs ≡ Some x → Contains xs x) →
          cond v (Some y) (find test xs) ≡ Some x → Contains (y ∷ xs) x
      by true later is = let same : y ≡ x = cc in subst (Contains (y ∷ xs)) same (first_stands y xs)
      by false later is = later_stands y x xs (later is)

  -- something is found if an element passes the test
  each_is_found : (test : A → Bool) (xs : List A) →
      AllByRecursion (λ x. test x ≡ true → IsSome (find test xs)) xs
  each_is_found test [] = tt
  each_is_found test (y ∷ xs) = (
    λ passes. rw passes refl,
    all_weaker (λ x. test x ≡ true → IsSome (find test xs))
        (λ x. test x ≡ true → IsSome (cond (test y) (Some y) (find test xs)))
        (λ x found passes. by (test y) (found passes)) xs (each_is_found test xs),
  )
    where
      by : (v : Bool) → IsSome (find test xs) → IsSome (cond v (Some y) (find test xs))
      by true some = refl
      by false some = some

  -- something is found if an element that stands in the list passes the test
  pub standing_is_found : (test : A → Bool) (xs : List A) (x : A) → Contains xs x →
      test x ≡ true → IsSome (find test xs)
  standing_is_found test xs x there passes =
      of_standing (λ y. test y ≡ true → IsSome (find test xs)) xs x (each_is_found test xs) there
      passes

-- a row that is found by an id has it
pub row_found : (id : ℕ) (rows : List (Row Body)) (row : Row Body) → row_with id rows ≡ Some row →
    row.id ≡ id
row_found id rows row is =
    let same : (row.id == id) ≡ true = found_passes (λ one. one.id == id) rows row is in
    grind (arith, nat_tests)

-- what holds of each id of rows holds of that of a row that is found
id_of_found : (Q : ℕ → Type 0) (test : Row Body → Bool) (rows : List (Row Body)) (row : Row Body) →
    AllByRecursion Q (map (λ (one : Row Body). one.id) rows) → find test rows ≡ Some row → Q row.id
id_of_found Q test [] row all is = absurd (cc)
id_of_found Q test (first ∷ rows) row all is =
    by (test first) (id_of_found Q test rows row all.1) is
  where
    by : (v : Bool) → (find test rows ≡ Some row → Q row.id) →
        cond v (Some first) (find test rows) ≡ Some row → Q row.id
    by true later is =
        let same : first ≡ row = cc in subst (λ (one : Row Body). Q one.id) same all.0
    by false later is = later is

-- where no two rows have one id, a row that is found by a test is the row with its id
pub found_by_id : (test : Row Body → Bool) (rows : List (Row Body)) (row : Row Body) →
    IsDistinct nat_eq (map (λ (one : Row Body). one.id) rows) → find test rows ≡ Some row →
    row_with row.id rows ≡ Some row
unfolding IsDistinct
found_by_id test [] row apart is = absurd (cc)
found_by_id test (first ∷ rows) row apart is =
    by (test first) (found_by_id test rows row apart.1) is
  where
    by : (v : Bool) → (find test rows ≡ Some row → row_with row.id rows ≡ Some row) →
        cond v (Some first) (find test rows) ≡ Some row →
        cond (first.id == row.id) (Some first) (row_with row.id rows) ≡ Some row
    by true later is =
        let same : first ≡ row = cc in
        let own : (first.id == row.id) ≡ true =
        let ids : first.id ≡ row.id = ap (λ (one : Row Body). one.id) same in
        grind (arith, nat_tests) in
        rw own is
    by false later is =
        let other : (first.id == row.id) ≡ false =
        id_of_found (λ id. nat_eq first.id id ≡ false) test rows row apart.0 is in
        rw other (later is)
