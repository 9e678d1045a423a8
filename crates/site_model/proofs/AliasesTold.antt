-- The aliases that a deletion leaves are the rising list of the pages that stay and show one that
-- goes: whatever rises and has the same ids is that list.
use Rattle.std.proofs.Common.{◌≡◌, ◌<◌, ◌≤◌, ℕ, Bool, true, false, cond, ◌||◌, ◌&&◌, nat_eq, nat_lt, ◌⊎◌, inl, inr, List, [], ◌∷◌, None, refl, sym, ap, subst, ◌∙◌, arith}
use Rattle.std.specs.List.{AllByRecursion, list_any}
use Rattle.std.proofs.lemmas.Bool.Decides.{nat_tests}
use Rattle.page_tree.specs.Tree.{Forest, HasDistinctIds, node_of}
use Rattle.page_tree.specs.Rows.{Row, rows_of, comes_before}
use Rattle.site_types.specs.declared.body.Body.{Body}
use Rattle.tree_model.proofs.CountLemmas.{once, same_id, id_found}
use Rattle.tree_model.proofs.PageLemmas.{all_weaker}
use Rattle.site_model.specs.World.{TreePart}
use Rattle.site_model.specs.Users.{put_in}
use Rattle.site_model.specs.Delete.{loses_source, id_key, losing_source, aliases_left}
use Rattle.site_model.specs.Sound.{KeysRise}
use Rattle.site_model.proofs.AliasesLeft.{row_times, rows_count, times_losing, none_listed, any_put}
use Rattle.site_model.proofs.OrderLemmas.{rise_put}

-- whether an id is in a list
abbrev pub is_listed : ℕ → List ℕ → Bool
is_listed id ids = list_any (λ one. nat_eq one id) ids

-- a row whose id no other has leaves the ids rising
losing_rises : (gone : Forest Body) (rows : List (Row Body)) →
    ((id : ℕ) → row_times id rows ≤ 1) → KeysRise id_key (losing_source gone rows)
losing_rises gone [] once_each = tt
losing_rises gone (row ∷ rows) once_each =
    choice (loses_source gone row)
    (losing_rises gone rows (λ id. let most = once_each id in omega (arith, most)))
  where
    same_key : (x y : ℕ) → x ∷ [] ≡ y ∷ [] → x ≡ y
    same_key x y e = cc

    apart : AllByRecursion (λ (id : ℕ). id ≡ row.id → ⊥) (losing_source gone rows)
    apart =
        let first = rw (same_id row.id) at (once_each row.id) in
        let few = times_losing gone row.id rows in
        none_listed row.id (losing_source gone rows) (omega (arith, first, few))

    choice : (t : Bool) → KeysRise id_key (losing_source gone rows) →
        KeysRise id_key
        (cond t (put_in id_key row.id (losing_source gone rows)) (losing_source gone rows))
    choice true more =
        rise_put id_key row.id (losing_source gone rows)
        (all_weaker (λ (id : ℕ). id ≡ row.id → ⊥) _ (losing_source gone rows)
        (λ id differs same. differs (same_key id row.id same)) apart) more
    choice false more = more

-- the aliases that a deletion leaves rise by id
pub aliases_rise : (part : TreePart) (page : ℕ) → HasDistinctIds part.tree →
    KeysRise id_key (aliases_left part page)
aliases_rise part page distinct =
    losing_rises (node_of page part.tree) (rows_of part.tree)
    (λ id. let same = rows_count id None [] [] part.tree in
    let most = once part.tree distinct id in omega (arith, same, most))

-- an id is listed exactly where a row has it that loses its source
losing_is : (gone : Forest Body) (id : ℕ) (rows : List (Row Body)) →
    is_listed id (losing_source gone rows)
    ≡ list_any (λ (row : Row Body). nat_eq row.id id && loses_source gone row) rows
losing_is gone id [] = refl
losing_is gone id (row ∷ rows) = choice (loses_source gone row) (losing_is gone id rows)
  where
    with_true : (t : Bool) → (t && true) ≡ t
    with_true true = refl
    with_true false = refl

    with_false : (t : Bool) → (t && false) ≡ false
    with_false true = refl
    with_false false = refl

    choice : (t : Bool) →
        is_listed id (losing_source gone rows)
        ≡ list_any (λ (other : Row Body). nat_eq other.id id && loses_source gone other) rows →
        is_listed id
        (cond t (put_in id_key row.id (losing_source gone rows)) (losing_source gone rows))
        ≡ ((nat_eq row.id id && t)
        || list_any (λ (other : Row Body). nat_eq other.id id && loses_source gone other) rows)
    choice true more =
        any_put (λ one. nat_eq one id) row.id (losing_source gone rows)
        ∙ rw (with_true (nat_eq row.id id), more) refl
    choice false more = rw (with_false (nat_eq row.id id)) more

-- an id before all that rise is not among them
below_all : (id : ℕ) (ids : List ℕ) →
    AllByRecursion (λ (later : ℕ). comes_before (id_key id) (id_key later) ≡ true) ids →
    is_listed id ids ≡ false
below_all id [] all = refl
below_all id (later ∷ ids) all =
    let differs : nat_eq later id ≡ false = grind (arith, nat_tests, all.0) in
    rw differs (below_all id ids all.1)

-- an id is before those that rise from a later one
before_all : (id first : ℕ) (ids : List ℕ) → id < first →
    AllByRecursion (λ (later : ℕ). comes_before (id_key first) (id_key later) ≡ true) ids →
    AllByRecursion (λ (later : ℕ). comes_before (id_key id) (id_key later) ≡ true) ids
before_all id first [] lower all = tt
before_all id first (later ∷ ids) lower all =
    (grind (arith, nat_tests, all.0, lower), before_all id first ids lower all.1)

-- of two numbers one is below the other, or they are the same
compared : (a b : ℕ) → (a ≡ b) ⊎ ((a < b) ⊎ (b < a))
compared a b = choice (nat_eq a b) refl (nat_lt a b) refl
  where
    choice : (t : Bool) → nat_eq a b ≡ t → (u : Bool) → nat_lt a b ≡ u →
        (a ≡ b) ⊎ ((a < b) ⊎ (b < a))
    choice true same u less = inl (id_found a b same)
    choice false same true less = inr (inl (grind (arith, nat_tests, less)))
    choice false same false less = inr (inr (grind (arith, nat_tests, same, less)))

-- the first of a list is listed
first_listed : (id : ℕ) (ids : List ℕ) → is_listed id (id ∷ ids) ≡ true
first_listed id ids = ap (λ (t : Bool). t || is_listed id ids) (same_id id)

-- what is below the first of a list that rises is not listed
lower_unlisted : (id first : ℕ) (ids : List ℕ) → id < first → KeysRise id_key (first ∷ ids) →
    is_listed id (first ∷ ids) ≡ false
lower_unlisted id first ids lower rise =
    below_all id (first ∷ ids)
    (grind (arith, nat_tests, lower), before_all id first ids lower rise.0)

-- a test does not both hold and fail
both_values : {R : Type 0} (t : Bool) → t ≡ true → t ≡ false → R
both_values t holds fails = absurd (cc)

-- two lists that rise and have the same ids are the same
pub rising_same : (xs ys : List ℕ) → KeysRise id_key xs → KeysRise id_key ys →
    ((id : ℕ) → is_listed id xs ≡ is_listed id ys) → xs ≡ ys
rising_same [] [] rise other same = refl
rising_same [] (y ∷ ys) rise other same =
    both_values (is_listed y []) (same y ∙ first_listed y ys) refl
rising_same (x ∷ xs) [] rise other same =
    both_values (is_listed x []) (sym (same x) ∙ first_listed x xs) refl
rising_same (x ∷ xs) (y ∷ ys) rise other same =
    by (compared x y) (rising_same xs ys rise.1 other.1)
  where
    tails : x ≡ y → (id : ℕ) → is_listed id xs ≡ is_listed id ys
    tails equal id = choice (nat_eq x id) refl
      where
        choice : (t : Bool) → nat_eq x id ≡ t → is_listed id xs ≡ is_listed id ys
        choice true is =
            let here = id_found x id is in
            subst (λ (k : ℕ). is_listed k xs ≡ false) here (below_all x xs rise.0)
            ∙ sym (subst (λ (k : ℕ). is_listed k ys ≡ false) (sym equal ∙ here)
            (below_all y ys other.0))
        choice false is =
            let away = subst (λ (k : ℕ). nat_eq k id ≡ false) equal is in
            rw (is, away) at (same id)

    by : (x ≡ y) ⊎ ((x < y) ⊎ (y < x)) →
        (((id : ℕ) → is_listed id xs ≡ is_listed id ys) → xs ≡ ys) → x ∷ xs ≡ y ∷ ys
    by (inl equal) later = rw (equal, later (tails equal)) refl
    by (inr (inl lower)) later =
        both_values (is_listed x (y ∷ ys)) (sym (same x) ∙ first_listed x xs)
        (lower_unlisted x y ys lower other)
    by (inr (inr lower)) later =
        both_values (is_listed y (x ∷ xs)) (same y ∙ first_listed y ys)
        (lower_unlisted y x xs lower rise)

-- What rises, and has exactly the ids of the rows that lose their source, is the list of the aliases
-- that a deletion leaves.
pub aliases_told : (part : TreePart) (page : ℕ) (ids : List ℕ) → HasDistinctIds part.tree →
    KeysRise id_key ids →
    ((id : ℕ) → is_listed id ids ≡ list_any (λ (row : Row Body). nat_eq row.id id
    && loses_source (node_of page part.tree) row) (rows_of part.tree)) →
    ids ≡ aliases_left part page
aliases_told part page ids distinct rise same =
    rising_same ids (aliases_left part page) rise (aliases_rise part page distinct)
    (λ id. same id ∙ sym (losing_is (node_of page part.tree) id (rows_of part.tree)))
