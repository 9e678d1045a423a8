-- A new row put among the rows of a store: they are again the rows of a tree.
use Rattle.std.proofs.Common.{◌≡◌, ℕ, suc, Bool, true, false, cond, nat_eq, List, [], ◌∷◌, Option, Some, None, find, filter, length, refl, ap, arith}
use Rattle.std.proofs.lemmas.Bool.Decides.{nat_tests}
use Rattle.std.proofs.lemmas.Slice.Eq.{bytes_eq-Decides}
use Rattle.std.specs.List.{AllByRecursion}
use Rattle.std.specs.Option.{option_map}
use Rattle.std.specs.Str.{bytes_eq}
use Rattle.page_tree.specs.Rows.{comes_before, insert_in_order, raise_count, with_kid, is_parent, row_with}
use Rattle.page_store.specs.Pages.{Page}
use Rattle.page_store.proofs.AllLemmas.{All-weaker, raised}

-- bytes that are equal are one
pub same_bytes : (xs ys : List ℕ) → bytes_eq xs ys ≡ true → xs ≡ ys
same_bytes xs ys h = (bytes_eq-Decides xs ys).0 h

-- and one text equals itself
pub bytes_eq-self : (xs : List ℕ) → bytes_eq xs xs ≡ true
bytes_eq-self xs = (bytes_eq-Decides xs xs).1 refl

-- where nothing is found, each element fails the test
pub all_fail_from_find : {X : Type 0} (test : X → Bool) (xs : List X) → find test xs ≡ None →
    AllByRecursion (λ x. test x ≡ false) xs
all_fail_from_find test [] none = tt
all_fail_from_find test (x ∷ xs) none = by (test x) refl none (all_fail_from_find test xs)
  where
    by : (t : Bool) → test x ≡ t → cond t (Some x) (find test xs) ≡ None → (find test xs ≡ None →
        AllByRecursion (λ x. test x ≡ false) xs) → AllByRecursion (λ x. test x ≡ false) (x ∷ xs)
    by true e h more = absurd cc
    by false e h more = (e, more h)

-- no page is found by its id: each has another
pub other_ids : (id : ℕ) (pages : List Page) → row_with id pages ≡ None →
    AllByRecursion (λ row. row.id ≡ id → ⊥) pages
other_ids id pages none =
    All-weaker (λ row. nat_eq row.id id ≡ false) (λ row. row.id ≡ id →
    ⊥) (λ row h same. grind (
      arith,
      nat_tests,
    )) pages (all_fail_from_find (λ row. nat_eq row.id id) pages none)

-- one step of a search by path and one of a search by any test of what a raised count keeps
module _ (test : Page → Bool) (keeps : (row : Page) → test (with_kid row) ≡ test row) where
  -- a raised count changes no search by it
  pub find-raise_count : (parent : Option ℕ) (rows : List Page) →
      find test (raise_count parent rows) ≡ option_map (raised parent) (find test rows)
  find-raise_count parent [] = refl
  find-raise_count parent (row ∷ rows) =
      by (is_parent row.id parent) (test row) refl refl (find-raise_count parent rows)
    where
      by : (t u : Bool) → is_parent row.id parent ≡ t → test row ≡ u →
          find test (raise_count parent rows) ≡ option_map (raised parent) (find test rows) →
          find test (raised parent row ∷ raise_count parent rows) ≡ option_map (raised parent) (cond
          (test row) (Some row) (find test rows))
      by true true e f more = rw (e, keeps row, f) (rw e refl)
      by true false e f more = rw (e, keeps row, f) more
      by false true e f more = rw (e, f) (rw e refl)
      by false false e f more = rw (e, f) more

  -- a new row that fails the test changes no search by it
  pub find-insert_fails : (new : Page) (rows : List Page) → test new ≡ false →
      find test (insert_in_order new rows) ≡ find test rows
  find-insert_fails new [] fails = rw fails refl
  find-insert_fails new (row ∷ rows) fails =
      by (comes_before new.path row.path) (find-insert_fails new rows fails)
    where
      by : (t : Bool) → find test (insert_in_order new rows) ≡ find test rows →
          find test (cond t (new ∷ row ∷ rows) (row ∷ insert_in_order new rows)) ≡ find test (row ∷
          rows)
      by true more = rw fails refl
      by false more = ap (cond (test row) (Some row)) more

  -- a new row that alone passes is what is found
  pub find-insert_passes : (new : Page) (rows : List Page) → test new ≡ true →
      AllByRecursion (λ row. test row ≡ false) rows →
      find test (insert_in_order new rows) ≡ Some new
  find-insert_passes new [] passes none = rw passes refl
  find-insert_passes new (row ∷ rows) passes none =
      by (comes_before new.path row.path) (find-insert_passes new rows passes none.1)
    where
      by : (t : Bool) → find test (insert_in_order new rows) ≡ Some new →
          find test (cond t (new ∷ row ∷ rows) (row ∷ insert_in_order new rows)) ≡ Some new
      by true more = rw passes refl
      by false more = rw none.0 more

  -- the rows that pass, after a raised count
  pub count-raise_count : (parent : Option ℕ) (rows : List Page) →
      length (filter test (raise_count parent rows)) ≡ length (filter test rows)
  count-raise_count parent [] = refl
  count-raise_count parent (row ∷ rows) =
      by (is_parent row.id parent) (test row) refl refl (count-raise_count parent rows)
    where
      by : (t u : Bool) → is_parent row.id parent ≡ t → test row ≡ u →
          length (filter test (raise_count parent rows)) ≡ length (filter test rows) →
          length (filter test (raised parent row ∷ raise_count parent rows)) ≡ length (filter test
          (row ∷ rows))
      by true true e f more = rw (e, keeps row, f) (ap suc more)
      by true false e f more = rw (e, keeps row, f) more
      by false true e f more = rw (e, f) (ap suc more)
      by false false e f more = rw (e, f) more

  -- the rows that pass, with a new row
  pub count-insert : (new : Page) (rows : List Page) →
      length (filter test (insert_in_order new rows)) ≡ length (filter test (new ∷ rows))
  count-insert new [] = refl
  count-insert new (row ∷ rows) =
      by (comes_before new.path row.path) (test row) (test new) refl refl (count-insert new rows)
    where
      by : (t u v : Bool) → test row ≡ u → test new ≡ v →
          length (filter test (insert_in_order new rows)) ≡ length (filter test (new ∷ rows)) →
          length (filter test (cond t (new ∷ row ∷ rows) (row ∷ insert_in_order new rows))) ≡ length
          (filter test (new ∷ row ∷ rows))
      by true u v e f more = refl
      by false true true e f more = rw (e, f) (ap suc (rw f at more))
      by false true false e f more = rw (e, f) (ap suc (rw f at more))
      by false false true e f more = rw (e, f) (rw f at more)
      by false false false e f more = rw (e, f) (rw f at more)
