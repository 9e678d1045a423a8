-- Where a row goes among rows in path order, and the row above it.
use Rattle.std.proofs.Common.{◌≡◌, ◌-◌, ℕ, Bool, true, false, cond, List, [], ◌∷◌, ◌++◌, length, take, find, Some, nat_eq, refl, sym, ap, arith, length-append}
use Rattle.std.specs.List.{AllByRecursion}
use Rattle.std.specs.Str.{bytes_eq}
use Rattle.page_tree.specs.Rows.{row_with, comes_before, insert_in_order}
use Rattle.page_store.specs.PageRows.{above}
use Rattle.page_store.specs.Pages.{Page, EachPair, IsBefore}
use Rattle.page_store.proofs.InsertLemmas.{same_bytes, bytes_eq-self}
use Rattle.page_store.proofs.PathOrder.{comes_before-self, comes_before-not_back}
use Rattle.page_store.proofs.SeenLemmas.{All-find}

-- a row that comes behind some and before others goes between them
pub between : (new : Page) (xs ys : List Page) →
    AllByRecursion (λ (x : Page). IsBefore x new) xs → AllByRecursion (IsBefore new) ys →
    insert_in_order new (xs ++ ys) ≡ xs ++ new ∷ ys
between new [] [] behind before = refl
between new [] (y ∷ ys) behind before = rw before.0 refl
between new (x ∷ xs) ys behind before =
    rw (comes_before-not_back x.path new.path behind.0, between new xs ys behind.1 before) refl

-- one that comes before another has another path
pub other_path : (x y : Page) → IsBefore x y → x.path ≡ y.path → ⊥
other_path x y before same =
    let self = comes_before-self x.path in
    let both : comes_before x.path x.path ≡ true = rw (← same) at before in
    absurd (cc)

-- no row of two parts has the path of the row between them
pub path_between : (new : Page) (xs ys : List Page) →
    AllByRecursion (λ (x : Page). IsBefore x new) xs → AllByRecursion (IsBefore new) ys →
    AllByRecursion (λ (row : Page). row.path ≡ new.path → ⊥) (xs ++ ys)
path_between new [] [] behind before = tt
path_between new [] (y ∷ ys) behind before =
    ((λ same. other_path new y before.0 (sym same)), path_between new [] ys tt before.1)
path_between new (x ∷ xs) ys behind before =
    (other_path x new behind.0, path_between new xs ys behind.1 before)

-- the page with a path is the one whose row is found with it
pub by_path : (id : ℕ) (top : Page) (rows : List Page) → EachPair IsBefore rows →
    row_with id rows ≡ Some top →
    find (λ (row : Page). bytes_eq row.path top.path) rows ≡ Some top
by_path id top [] order found = absurd (cc)
by_path id top (row ∷ rows) order found =
    choice (nat_eq row.id id) found (λ more. by_path id top rows order.1 more)
  where
    choice : (t : Bool) → cond t (Some row) (row_with id rows) ≡ Some top →
        (row_with id rows ≡ Some top →
        find (λ (r : Page). bytes_eq r.path top.path) rows ≡ Some top) →
        cond (bytes_eq row.path top.path) (Some row)
        (find (λ (r : Page). bytes_eq r.path top.path) rows) ≡ Some top
    choice true is more =
        let same : row ≡ top = cc in
        let self : bytes_eq row.path top.path ≡ true = rw (← same) (bytes_eq-self row.path) in
        rw self (ap Some same)
    choice false is more =
        let late = All-find (IsBefore row) (λ (r : Page). nat_eq r.id id) rows top order.0 is in
        inner (bytes_eq row.path top.path) refl late
      where
        inner : (t : Bool) → bytes_eq row.path top.path ≡ t → IsBefore row top →
            cond t (Some row) (find (λ (r : Page). bytes_eq r.path top.path) rows) ≡ Some top
        inner true e late = absurd (other_path row top late (same_bytes row.path top.path e))
        inner false e late = more is

-- a path with a step more begins with that path
pub above_is : (path : List ℕ) (step : ℕ) → above (path ++ step ∷ []) ≡ path
above_is path step =
    let long = length-append path (step ∷ []) in
    let less : length (path ++ step ∷ []) - 1 ≡ length path = omega (arith, long) in
    rw less (front path (step ∷ []))
  where
    front : (xs ys : List ℕ) → take (length xs) (xs ++ ys) ≡ xs
    front [] ys = refl
    front (x ∷ xs) ys = ap (λ more. x ∷ more) (front xs ys)
