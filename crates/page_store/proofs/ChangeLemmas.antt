-- The rows of a store with a change to one of them.
use Rattle.std.proofs.Common.{◌≡◌, ℕ, suc, Bool, true, false, cond, nat_eq, List, [], ◌∷◌, Option, Some, None, map, find, filter, length, refl, ap, sym, ◌∙◌, arith}
use Rattle.std.proofs.lemmas.Bool.Decides.{nat_tests}
use Rattle.std.specs.List.{AllByRecursion}
use Rattle.std.specs.Option.{option_map, IfSome}
use Rattle.std.specs.Map.{lookup}
use Rattle.page_tree.specs.Rows.{row_with}
use Rattle.page_store.specs.declared.stored.StoredRow.{StoredRow}
use Rattle.page_store.specs.Pages.{Page, EachPair}
use Rattle.page_store.specs.Kept.{seen, IsStored}
use Rattle.page_store.specs.Changes.{changed}
use Rattle.page_store.proofs.AllLemmas.{All-weaker, All-always}
use Rattle.page_store.proofs.KeptLemmas.{found_passes}

-- a row after the change to the one with the id
abbrev pub after : ℕ → (Page → Page) → Page → Page
after id change row = cond (nat_eq row.id id) (change row) row

-- what the change keeps holds of each row after it
pub All-changed : (P : Page → Type 0) (id : ℕ) (change : Page → Page) → ((row : Page) → P row →
    P (change row)) → (rows : List Page) → AllByRecursion P rows →
    AllByRecursion P (changed id change rows)
All-changed P id change keeps [] all = tt
All-changed P id change keeps (row ∷ rows) all =
    (by (nat_eq row.id id), All-changed P id change keeps rows all.1)
  where
    by : (t : Bool) → P (cond t (change row) row)
    by true = keeps row all.0
    by false = all.0

-- the same of pairs
pub EachPair-changed : (R : Page → Page → Type 0) (id : ℕ) (change : Page → Page) → ((row later :
    Page) → R row later → R (change row) later) → ((row later : Page) → R row later →
    R row (change later)) → (rows : List Page) → EachPair R rows →
    EachPair R (changed id change rows)
EachPair-changed R id change first second [] pairs = tt
EachPair-changed R id change first second (row ∷ rows) pairs = (
  by (nat_eq row.id id) (All-changed (λ later. R row later) id change (second row) rows pairs.0),
  EachPair-changed R id change first second rows pairs.1,
)
  where
    by : (t : Bool) → AllByRecursion (λ later. R row later) (changed id change rows) →
        AllByRecursion (λ later. R (cond t (change row) row) later) (changed id change rows)
    by true more = All-weaker (λ later. R row later) (λ later. R (change row) later) (first row)
        (changed id change rows) more
    by false more = more

-- a change that keeps the outcome of a test at the page with the id changes no search by it
pub find-changed : (test : Page → Bool) (id : ℕ) (change : Page → Page) (rows : List Page) →
    AllByRecursion (λ row. nat_eq row.id id ≡ true → test (change row) ≡ test row) rows →
    find test (changed id change rows) ≡ option_map (after id change) (find test rows)
find-changed test id change [] keeps = refl
find-changed test id change (row ∷ rows) keeps =
    by (nat_eq row.id id) (test row) refl refl (find-changed test id change rows keeps.1)
  where
    by : (t u : Bool) → nat_eq row.id id ≡ t → test row ≡ u →
        find test (changed id change rows) ≡ option_map (after id change) (find test rows) →
        find test (after id change row ∷ changed id change rows) ≡ option_map (after id change)
        (cond (test row) (Some row) (find test rows))
    by true true e f more = rw (e, keeps.0 e, f) (rw e refl)
    by true false e f more = rw (e, keeps.0 e, f) more
    by false true e f more = rw (e, f) (rw e refl)
    by false false e f more = rw (e, f) more

-- nor the number of rows that pass it
pub count-changed : (test : Page → Bool) (id : ℕ) (change : Page → Page) → ((row : Page) →
    test (change row) ≡ test row) → (rows : List Page) →
    length (filter test (changed id change rows)) ≡ length (filter test rows)
count-changed test id change keeps [] = refl
count-changed test id change keeps (row ∷ rows) =
    by (nat_eq row.id id) (test row) refl refl (count-changed test id change keeps rows)
  where
    by : (t u : Bool) → nat_eq row.id id ≡ t → test row ≡ u →
        length (filter test (changed id change rows)) ≡ length (filter test rows) →
        length (filter test (after id change row ∷ changed id change rows)) ≡ length (filter test
        (row ∷ rows))
    by true true e f more = rw (e, keeps row, f) (ap suc more)
    by true false e f more = rw (e, keeps row, f) more
    by false true e f more = rw (e, f) (ap suc more)
    by false false e f more = rw (e, f) more

-- the change leaves the id
pub after-id : (id : ℕ) (change : Page → Page) → ((row : Page) → (change row).id ≡ row.id) →
    (row : Page) → (after id change row).id ≡ row.id
after-id id change same row = by (nat_eq row.id id)
  where
    by : (t : Bool) → (let out : Page = cond t (change row) row in out.id) ≡ row.id
    by true = same row
    by false = refl

-- the id of what is found, after the change
pub id_of_after : (id : ℕ) (change : Page → Page) → ((row : Page) → (change row).id ≡ row.id) →
    (o : Option Page) →
    option_map (λ (r : Page). r.id) (option_map (after id change) o) ≡ option_map (λ (r : Page).
    r.id) o
id_of_after id change same None = refl
id_of_after id change same (Some row) = ap Some (after-id id change same row)

-- the ids stay
pub ids-changed : (id : ℕ) (change : Page → Page) → ((row : Page) → (change row).id ≡ row.id) →
    (rows : List Page) → map (λ (r : Page). r.id) (changed id change rows) ≡ map (λ (r : Page).
    r.id) rows
ids-changed id change same [] = refl
ids-changed id change same (row ∷ rows) =
    rw (after-id id change same row) (ap (λ ids. row.id ∷ ids) (ids-changed id change same rows))

module _ (stored later : List (ℕ × StoredRow)) (pages : List Page)
    (found : (q : ℕ) → row_with q pages ≡ option_map seen (lookup (nat_eq q) stored)) (id : ℕ)
    (put : StoredRow → StoredRow) (change : Page → Page)
    (seen_put : (page : StoredRow) → seen (put page) ≡ change (seen page))
    (same_id : (row : Page) → (change row).id ≡ row.id)
    (stores : (other : ℕ) → lookup (nat_eq other) later ≡ cond (nat_eq id other) (option_map put
    (lookup (nat_eq id) stored)) (lookup (nat_eq other) stored)) where
  -- what is kept at an id has that id
  kept_id : (q : ℕ) (page : StoredRow) → lookup (nat_eq q) stored ≡ Some page → page.row.id ≡ q
  kept_id q page is =
      let test : nat_eq page.row.id q ≡ true =
      found_passes (λ (row : Page). nat_eq row.id q) pages (seen page) (found q ∙ ap (option_map
      seen) is) in
      grind (arith, nat_tests)

  -- what is kept after the change is seen as the row after it
  after_kept : (q : ℕ) → option_map (after id change) (option_map seen (lookup (nat_eq q) stored)) ≡
      option_map seen (cond (nat_eq id q) (option_map put (lookup (nat_eq id) stored)) (lookup
      (nat_eq q) stored))
  after_kept q = by (nat_eq id q) refl (lookup (nat_eq q) stored) refl
    where
      by : (t : Bool) → nat_eq id q ≡ t → (o : Option StoredRow) → lookup (nat_eq q) stored ≡ o →
          option_map (after id change) (option_map seen o) ≡ option_map seen (cond t (option_map put
          (lookup (nat_eq id) stored)) o)
      by true e o h =
          let same : id ≡ q = grind (arith, nat_tests) in
          let found : lookup (nat_eq id) stored ≡ o = rw same h in
          rw found (own o found)
        where
          own : (o : Option StoredRow) → lookup (nat_eq id) stored ≡ o →
              option_map (after id change) (option_map seen o) ≡ option_map seen (option_map put o)
          own None h = refl
          own (Some page) h =
              let is = kept_id id page h in
              let self : nat_eq page.row.id id ≡ true = grind (arith, nat_tests) in
              rw self (ap Some (sym (seen_put page)))
      by false e None h = refl
      by false e (Some page) h =
          let own = kept_id q page h in
          let differ : nat_eq page.row.id id ≡ false = grind (arith, nat_tests) in
          rw differ refl

  -- each page is found by its id
  pub found-changed : (q : ℕ) →
      row_with q (changed id change pages) ≡ option_map seen (lookup (nat_eq q) later)
  found-changed q =
      find-changed (λ (row : Page). nat_eq row.id q) id change pages
      (All-always (λ row. nat_eq row.id id ≡ true → nat_eq (change row).id q ≡ nat_eq row.id q) (λ
      row e. ap (λ n. nat_eq n q) (same_id row)) pages)
      ∙ rw (stores q, found q) (after_kept q)

  -- each row that is kept has the text of a path
  pub texts-changed : ((q : ℕ) → IfSome (lookup (nat_eq q) stored) IsStored) →
      ((page : StoredRow) → IsStored page → IsStored (put page)) → (q : ℕ) →
      IfSome (lookup (nat_eq q) later) IsStored
  texts-changed texts keeps q = rw (stores q) (by (nat_eq id q))
    where
      own : (o : Option StoredRow) → IfSome o IsStored → IfSome (option_map put o) IsStored
      own None is = tt
      own (Some page) is = keeps page is

      by : (t : Bool) → IfSome (cond t (option_map put (lookup (nat_eq id) stored)) (lookup (nat_eq
          q) stored)) IsStored
      by true = own (lookup (nat_eq id) stored) (texts id)
      by false = texts q
