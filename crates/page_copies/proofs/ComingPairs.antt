-- Rows of which each differs from each other, where some are left out or counts change.
use Rattle.std.proofs.Common.{◌≡◌, ◌+◌, ℕ, zero, suc, Bool, true, false, cond, nat_eq, List, [], ◌∷◌, ◌++◌, Option, Some, None, refl, sym, ap, ◌∙◌, arith}
use Rattle.std.specs.List.{AllByRecursion}
use Rattle.std.specs.Str.{bytes_eq}
use Rattle.page_tree.specs.Rows.{row_with, kid_named, is_parent, raise_count, with_kid}
use Rattle.page_tree.proofs.RowLemmas.{find-append}
use Rattle.page_store.specs.Pages.{Page, EachPair, IsBefore, HasOtherId, HasOtherSlug}
use Rattle.page_store.proofs.AllLemmas.{All-weaker, All-raise_count, EachPair-raise_count}
use Rattle.page_store.proofs.InsertLemmas.{same_bytes}
use Rattle.path_moves.proofs.TreePages.{EachPair-append}
use Rattle.tree_model.proofs.CountLemmas.{same_id, id_found, told_apart}
use Rattle.tree_rows.proofs.Lists.{all_parts, EachPair-parts}

-- a row comes before a later one, and has another id, and another slug if they are siblings
abbrev pub Differ : Page → Page → Type 0
Differ row later = IsBefore row later × HasOtherId row later × HasOtherSlug row later

-- a count more for the page makes no difference before others
pub raised_front : (parent : Option ℕ) (xs ys : List Page) → EachPair Differ (xs ++ ys) →
    EachPair Differ (raise_count parent xs ++ ys)
raised_front parent xs ys pairs =
    let parts = EachPair-parts Differ xs ys pairs in
    EachPair-append Differ (raise_count parent xs) ys
    (EachPair-raise_count Differ parent (λ row later differ. differ) (λ row later differ. differ) xs
    parts.0)
    parts.1
    (All-raise_count (λ row. AllByRecursion (Differ row) ys) parent (λ row all. all) xs parts.2)

-- nor does another count for a row
pub recounted : (xs ys : List Page) (row : Page) (n : ℕ) → EachPair Differ (xs ++ row ∷ ys) →
    EachPair Differ (xs ++ record row { numchild = n } ∷ ys)
recounted xs ys row n pairs =
    let parts = EachPair-parts Differ xs (row ∷ ys) pairs in
    EachPair-append Differ xs (record row { numchild = n } ∷ ys) parts.0
    (parts.1.0, parts.1.1)
    (All-weaker (λ x. AllByRecursion (Differ x) (row ∷ ys))
    (λ x. AllByRecursion (Differ x) (record row { numchild = n } ∷ ys)) (λ x all. (all.0, all.1)) xs
    parts.2)

-- rows in the middle are left out
pub without_middle : (xs ys zs : List Page) → EachPair Differ (xs ++ (ys ++ zs)) →
    EachPair Differ (xs ++ zs)
without_middle xs ys zs pairs =
    let outer = EachPair-parts Differ xs (ys ++ zs) pairs in
    let inner = EachPair-parts Differ ys zs outer.1 in
    EachPair-append Differ xs zs outer.0 inner.1
    (All-weaker (λ x. AllByRecursion (Differ x) (ys ++ zs)) (λ x. AllByRecursion (Differ x) zs)
    (λ x all. (all_parts (Differ x) ys zs all).1) xs outer.2)

-- what holds of each pair, in a weaker form
pub pairs_weaker : (R S : Page → Page → Type 0) → ((x y : Page) → R x y → S x y) →
    (rows : List Page) → EachPair R rows → EachPair S rows
pairs_weaker R S w [] pairs = tt
pairs_weaker R S w (row ∷ rows) pairs =
    (All-weaker (R row) (S row) (w row) rows pairs.0, pairs_weaker R S w rows pairs.1)

-- no row is a page's that all rows differ from
pub not_among : (id : ℕ) (rows : List Page) →
    AllByRecursion (λ (row : Page). row.id ≡ id → ⊥) rows → row_with id rows ≡ None
not_among id [] all = refl
not_among id (row ∷ rows) all =
    rw (told_apart row.id id all.0, not_among id rows all.1) refl

-- no kid of a page has a slug that no row has there
pub none_named : (parent : ℕ) (slug : List ℕ) (rows : List Page) →
    AllByRecursion (λ (row : Page). row.parent ≡ Some parent → row.slug ≡ slug → ⊥) rows →
    kid_named parent slug rows ≡ None
none_named parent slug [] all = refl
none_named parent slug (row ∷ rows) all =
    by row.parent refl (bytes_eq row.slug slug) refl (none_named parent slug rows all.1)
  where
    by : (o : Option ℕ) → row.parent ≡ o → (t : Bool) → bytes_eq row.slug slug ≡ t →
        kid_named parent slug rows ≡ None → kid_named parent slug (row ∷ rows) ≡ None
    by None is t e later = rw is later
    by (Some other) is false e later = inner (nat_eq other parent) refl
      where
        inner : (u : Bool) → nat_eq other parent ≡ u → kid_named parent slug (row ∷ rows) ≡ None
        inner true f = rw (is, f, e) later
        inner false f = rw (is, f) later
    by (Some other) is true e later = inner (nat_eq other parent) refl
      where
        inner : (u : Bool) → nat_eq other parent ≡ u → kid_named parent slug (row ∷ rows) ≡ None
        inner true f =
            absurd (all.0 (is ∙ ap Some (id_found other parent f))
            (same_bytes row.slug slug e))
        inner false f = rw (is, f) later

-- the row of a page among the first of two lists
pub found_first : (id : ℕ) (xs ys : List Page) (row : Page) → row_with id xs ≡ Some row →
    row_with id (xs ++ ys) ≡ Some row
found_first id xs ys row found =
    rw (find-append (λ (r : Page). nat_eq r.id id) xs ys, found) refl

-- or of the second
pub found_second : (id : ℕ) (xs ys : List Page) → row_with id xs ≡ None →
    row_with id (xs ++ ys) ≡ row_with id ys
found_second id xs ys none =
    rw (find-append (λ (r : Page). nat_eq r.id id) xs ys, none) refl

-- so many kids more for a page
abbrev pub raised_by : ℕ → ℕ → List Page → List Page
raised_by parent zero rows = rows
raised_by parent (suc n) rows = raised_by parent n (raise_count (Some parent) rows)

-- a count of two lists
pub raise-append : (parent : Option ℕ) (xs ys : List Page) →
    raise_count parent (xs ++ ys) ≡ raise_count parent xs ++ raise_count parent ys
raise-append parent [] ys = refl
raise-append parent (x ∷ xs) ys =
    ap (λ more. cond (is_parent x.id parent) (with_kid x) x ∷ more) (raise-append parent xs ys)

-- rows of other pages keep their counts
pub raise-absent : (parent : ℕ) (rows : List Page) →
    AllByRecursion (λ (row : Page). row.id ≡ parent → ⊥) rows →
    raise_count (Some parent) rows ≡ rows
raise-absent parent [] all = refl
raise-absent parent (row ∷ rows) all =
    let other : nat_eq parent row.id ≡ false = told_apart parent row.id (λ same. all.0 (sym same)) in
    rw (other, raise-absent parent rows all.1) refl

-- so they do when many come
pub raised_by-absent : (parent n : ℕ) (rows : List Page) →
    AllByRecursion (λ (row : Page). row.id ≡ parent → ⊥) rows → raised_by parent n rows ≡ rows
raised_by-absent parent zero rows all = refl
raised_by-absent parent (suc n) rows all =
    ap (raised_by parent n) (raise-absent parent rows all) ∙ raised_by-absent parent n rows all

-- the counts of two lists
pub raised_by-append : (parent n : ℕ) (xs ys : List Page) →
    raised_by parent n (xs ++ ys) ≡ raised_by parent n xs ++ raised_by parent n ys
raised_by-append parent zero xs ys = refl
raised_by-append parent (suc n) xs ys =
    ap (raised_by parent n) (raise-append (Some parent) xs ys)
    ∙ raised_by-append parent n (raise_count (Some parent) xs) (raise_count (Some parent) ys)

-- the page's own row counts them
pub raised_by-own : (parent n k : ℕ) (row : Page) → row.id ≡ parent →
    raised_by parent n (record row { numchild = k } ∷ []) ≡ record row { numchild = k + n } ∷ []
raised_by-own parent zero k row own =
    let same : k ≡ k + 0 = omega arith in
    ap (λ m. record row { numchild = m } ∷ []) same
raised_by-own parent (suc n) k row own =
    let self : nat_eq parent row.id ≡ true = rw own (same_id parent) in
    let first : raise_count (Some parent) (record row { numchild = k } ∷ [])
    ≡ record row { numchild = k + 1 } ∷ [] = rw self refl in
    let same : (k + 1) + n ≡ k + suc n = omega arith in
    ap (raised_by parent n) first
    ∙ (raised_by-own parent n (k + 1) row own ∙ ap (λ m. record row { numchild = m } ∷ []) same)
