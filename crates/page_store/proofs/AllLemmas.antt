-- What holds of each row, or of each pair of rows, of a list into which a row is put in path order.
use Rattle.std.proofs.Common.{◌≡◌, ℕ, Bool, true, false, cond, List, [], ◌∷◌, ◌++◌, Option, map, refl}
use Rattle.std.specs.List.{AllByRecursion}
use Rattle.page_tree.specs.Rows.{comes_before, insert_in_order, raise_count, with_kid, is_parent}
use Rattle.page_store.specs.Pages.{Page, EachPair, IsBefore}
use Rattle.page_store.proofs.PathOrder.{comes_before-trans}

-- what holds of each element gives what follows from it
pub All-weaker : {X : Type 0} (P Q : X → Type 0) → ((x : X) → P x → Q x) → (xs : List X) →
    AllByRecursion P xs → AllByRecursion Q xs
All-weaker P Q w [] all = tt
All-weaker P Q w (x ∷ xs) all = (w x all.0, All-weaker P Q w xs all.1)

-- two facts of each element
pub All-both : {X : Type 0} (P Q R : X → Type 0) → ((x : X) → P x → Q x → R x) → (xs : List X) →
    AllByRecursion P xs → AllByRecursion Q xs → AllByRecursion R xs
All-both P Q R w [] ps qs = tt
All-both P Q R w (x ∷ xs) ps qs = (w x ps.0 qs.0, All-both P Q R w xs ps.1 qs.1)

-- what holds of all holds of each
pub All-always : {X : Type 0} (P : X → Type 0) → ((x : X) → P x) → (xs : List X) → AllByRecursion P xs
All-always P w [] = tt
All-always P w (x ∷ xs) = (w x, All-always P w xs)

-- of each element of two lists
pub All-append : {X : Type 0} (P : X → Type 0) → (xs ys : List X) → AllByRecursion P xs →
    AllByRecursion P ys → AllByRecursion P (xs ++ ys)
All-append P [] ys p q = q
All-append P (x ∷ xs) ys p q = (p.0, All-append P xs ys p.1 q)

-- of each element that a function gives
pub All-map : {X Y : Type 0} (P : Y → Type 0) (f : X → Y) (xs : List X) →
    AllByRecursion (λ x. P (f x)) xs → AllByRecursion P (map f xs)
All-map P f [] all = tt
All-map P f (x ∷ xs) all = (all.0, All-map P f xs all.1)

-- what holds of the new row and of each other one holds of each
pub All-insert_in_order : (P : Page → Type 0) (new : Page) (rows : List Page) → P new →
    AllByRecursion P rows → AllByRecursion P (insert_in_order new rows)
All-insert_in_order P new [] one all = (one, tt)
All-insert_in_order P new (row ∷ rows) one all =
    by (comes_before new.path row.path) (All-insert_in_order P new rows one all.1)
  where
    by : (t : Bool) → AllByRecursion P (insert_in_order new rows) →
        AllByRecursion P (cond t (new ∷ row ∷ rows) (row ∷ insert_in_order new rows))
    by true more = (one, all)
    by false more = (all.0, more)

-- the row with one child more where it is the parent
abbrev pub raised : Option ℕ → Page → Page
raised parent row = cond (is_parent row.id parent) (with_kid row) row

-- what does not look at the child count holds of each row, also where one count is raised
pub All-raise_count : (P : Page → Type 0) (parent : Option ℕ) → ((row : Page) → P row →
    P (with_kid row)) → (rows : List Page) → AllByRecursion P rows →
    AllByRecursion P (raise_count parent rows)
All-raise_count P parent keeps [] all = tt
All-raise_count P parent keeps (row ∷ rows) all = (
  by (is_parent row.id parent),
  All-raise_count P parent keeps rows all.1,
)
  where
    by : (t : Bool) → P (cond t (with_kid row) row)
    by true = keeps row all.0
    by false = all.0

-- the same of pairs
pub EachPair-raise_count : (R : Page → Page → Type 0) (parent : Option ℕ) → ((row later : Page) →
    R row later → R (with_kid row) later) → ((row later : Page) → R row later →
    R row (with_kid later)) → (rows : List Page) → EachPair R rows →
    EachPair R (raise_count parent rows)
EachPair-raise_count R parent first second [] pairs = tt
EachPair-raise_count R parent first second (row ∷ rows) pairs = (
  by (is_parent row.id parent) (All-raise_count (λ later. R row later) parent (second row) rows
      pairs.0),
  EachPair-raise_count R parent first second rows pairs.1,
)
  where
    by : (t : Bool) → AllByRecursion (λ later. R row later) (raise_count parent rows) →
        AllByRecursion (λ later. R (cond t (with_kid row) row) later) (raise_count parent rows)
    by true more = All-weaker (λ later. R row later) (λ later. R (with_kid row) later) (first row)
        (raise_count parent rows) more
    by false more = more

-- Pairs of rows where one is put in path order: it is paired with those before it and with those after it.
pub EachPair-insert_in_order : (R : Page → Page → Type 0) (new : Page) (rows : List Page) →
    EachPair IsBefore rows → AllByRecursion (λ row. comes_before new.path row.path ≡ true →
    R new row) rows → AllByRecursion (λ row. comes_before new.path row.path ≡ false →
    R row new) rows → EachPair R rows → EachPair R (insert_in_order new rows)
EachPair-insert_in_order R new [] order later earlier pairs = (tt, tt)
EachPair-insert_in_order R new (row ∷ rows) order later earlier pairs =
    by (comes_before new.path row.path) refl (EachPair-insert_in_order R new rows order.1 later.1
    earlier.1 pairs.1)
  where
    by : (t : Bool) → comes_before new.path row.path ≡ t → EachPair R (insert_in_order new rows) →
        EachPair R (cond (comes_before new.path row.path) (new ∷ row ∷ rows) (row ∷ insert_in_order
        new rows))
    by true e more =
        let behind = All-both (λ other. IsBefore row other) (λ other. comes_before new.path
        other.path ≡ true → R new other) (λ other. R new other) (λ other after says. says
        (comes_before-trans new.path row.path other.path e after)) rows order.0 later.1 in
        rw e ((later.0 e, behind), pairs)
    by false e more = rw e (All-insert_in_order (λ other. R row other) new rows (earlier.0 e) pairs.0, more)
