-- Tables: moments looked up, and one pair more or less.
use Rattle.std.proofs.Common.{◌≡◌, ℕ, suc, ◌<◌, ◌≤◌, Bool, true, false, cond, not, nat_eq, List, [], ◌∷◌, Option, Some, None, filter, length, insert, remove, refl, ap, sym, ◌∙◌, subst, arith}
use Rattle.std.specs.List.{AllByRecursion}
use Rattle.time_table.specs.Table.{is_earlier, is_of, moment_in, without, put_in, with_moment, ComesFirst, IsTable}
use Rattle.std.specs.Map.{lookup}
use Rattle.time_table.specs.Kept.{IsKept, leading}
use Rattle.time_table.proofs.EntryLemmas.{earlier_trans, earlier_other, earlier_self, eq_turned, eq_self, eq_means, all_kept, all_put, all_found}

-- one option either way
either : (t : Bool) (o : Option ℕ) → o ≡ cond t o o
either true o = refl
either false o = refl

-- two numbers that equal a third equal each other
pub eq_joined : (a b c : ℕ) → nat_eq a b ≡ true → nat_eq b c ≡ true → nat_eq a c ≡ true
eq_joined a b c h k =
    let first = eq_means a b h in
    let second = eq_means b c k in
    rw (first, second) (eq_self c)

-- the moment of a page after one was cleared
pub found_without : (page other : ℕ) (entries : List (ℕ × ℕ)) →
    moment_in (without page entries) other
    ≡ cond (nat_eq page other) None (moment_in entries other)
found_without page other [] = either (nat_eq page other) None
found_without page other (entry ∷ entries) =
    by (nat_eq entry.1 page) (nat_eq page other) (nat_eq entry.1 other) refl refl refl
    (found_without page other entries)
  where
    by : (t u v : Bool) → nat_eq entry.1 page ≡ t → nat_eq page other ≡ u → nat_eq entry.1 other ≡ v →
        moment_in (without page entries) other
        ≡ cond (nat_eq page other) None (moment_in entries other) →
        moment_in (cond (not t) (entry ∷ without page entries) (without page entries)) other
        ≡ cond u None (cond v (Some entry.0) (moment_in entries other))
    by true true v e f g more = more ∙ rw f refl
    by true false true e f g more =
        let joined : nat_eq page other ≡ true =
        eq_joined page entry.1 other (eq_turned entry.1 page true e) g in
        cc
    by true false false e f g more = more ∙ rw f refl
    by false true true e f g more =
        let joined : nat_eq entry.1 page ≡ true =
        eq_joined entry.1 other page g (eq_turned page other true f) in
        cc
    by false true false e f g more = rw g (more ∙ rw f refl)
    by false false true e f g more = rw g refl
    by false false false e f g more = rw g (more ∙ rw f refl)

-- a page that was cleared has no moment
pub none_without : (page : ℕ) (entries : List (ℕ × ℕ)) →
    moment_in (without page entries) page ≡ None
none_without page entries = found_without page page entries ∙ rw (eq_self page) refl

-- where a page has no moment, the first pair is not its own
first_differs : (entry : ℕ × ℕ) (entries : List (ℕ × ℕ)) (page : ℕ) →
    moment_in (entry ∷ entries) page ≡ None → nat_eq entry.1 page ≡ false
first_differs entry entries page none = by (nat_eq entry.1 page) none
  where
    by : (t : Bool) → cond t (Some entry.0) (moment_in entries page) ≡ None → t ≡ false
    by true h = cc
    by false h = refl

-- and it has none in what follows
rest_differs : (entry : ℕ × ℕ) (entries : List (ℕ × ℕ)) (page : ℕ) →
    moment_in (entry ∷ entries) page ≡ None → moment_in entries page ≡ None
rest_differs entry entries page none = by (nat_eq entry.1 page) none
  where
    by : (t : Bool) → cond t (Some entry.0) (moment_in entries page) ≡ None →
        moment_in entries page ≡ None
    by true h = cc
    by false h = h

-- the moment of a page after one without a moment got one
pub found_put : (new : ℕ × ℕ) (other : ℕ) (entries : List (ℕ × ℕ)) →
    moment_in entries new.1 ≡ None →
    moment_in (put_in new entries) other
    ≡ cond (nat_eq new.1 other) (Some new.0) (moment_in entries other)
found_put new other [] none = refl
found_put new other (entry ∷ entries) none =
    by (is_earlier entry new)
    (found_put new other entries (rest_differs entry entries new.1 none))
  where
    swapped : (u v : Bool) → nat_eq new.1 other ≡ u → nat_eq entry.1 other ≡ v →
        cond v (Some entry.0) (cond u (Some new.0) (moment_in entries other))
        ≡ cond u (Some new.0) (cond v (Some entry.0) (moment_in entries other))
    swapped true true f g =
        let joined : nat_eq entry.1 new.1 ≡ true =
        eq_joined entry.1 other new.1 g (eq_turned new.1 other true f) in
        let differs = first_differs entry entries new.1 none in
        cc
    swapped true false f g = refl
    swapped false true f g = refl
    swapped false false f g = refl

    by : (t : Bool) →
        moment_in (put_in new entries) other
        ≡ cond (nat_eq new.1 other) (Some new.0) (moment_in entries other) →
        moment_in (cond t (entry ∷ put_in new entries) (new ∷ entry ∷ entries)) other
        ≡ cond (nat_eq new.1 other) (Some new.0)
        (cond (nat_eq entry.1 other) (Some entry.0) (moment_in entries other))
    by true more =
        ap (λ (o : Option ℕ). cond (nat_eq entry.1 other) (Some entry.0) o) more
        ∙ swapped (nat_eq new.1 other) (nat_eq entry.1 other) refl refl
    by false more = refl

-- the moment of a page after one got a moment
pub found_with : (page moment other : ℕ) (entries : List (ℕ × ℕ)) →
    moment_in (with_moment page moment entries) other
    ≡ cond (nat_eq page other) (Some moment) (moment_in entries other)
found_with page moment other entries =
    found_put (moment, page) other (without page entries) (none_without page entries)
    ∙ ap (λ (o : Option ℕ). cond (nat_eq page other) (Some moment) o)
    (found_without page other entries)
    ∙ twice (nat_eq page other)
  where
    twice : (t : Bool) →
        cond t (Some moment) (cond t None (moment_in entries other))
        ≡ cond t (Some moment) (moment_in entries other)
    twice true = refl
    twice false = refl

-- those that a test keeps are a table
pub table_kept : (test : ℕ × ℕ → Bool) (entries : List (ℕ × ℕ)) → IsTable entries →
    IsTable (filter test entries)
table_kept test [] table = tt
table_kept test (entry ∷ entries) table =
    by (test entry) (table_kept test entries table.1)
  where
    by : (t : Bool) → IsTable (filter test entries) →
        IsTable (cond t (entry ∷ filter test entries) (filter test entries))
    by true more = (all_kept (ComesFirst entry) test entries table.0, more)
    by false more = more

-- a pair of another page that comes before a pair comes before all behind that
behind : (new entry : ℕ × ℕ) (entries : List (ℕ × ℕ)) → is_earlier new entry ≡ true →
    AllByRecursion (ComesFirst entry) entries → moment_in entries new.1 ≡ None →
    AllByRecursion (ComesFirst new) entries
behind new entry [] before all none = tt
behind new entry (next ∷ entries) before all none = (
  (earlier_trans new entry next before all.0.0, first_differs next entries new.1 none),
  behind new entry entries before all.1 (rest_differs next entries new.1 none),
)

-- a table with a pair more, of a page that had none, is a table
pub table_put : (new : ℕ × ℕ) (entries : List (ℕ × ℕ)) → IsTable entries →
    moment_in entries new.1 ≡ None → IsTable (put_in new entries)
table_put new [] table none = (tt, tt)
table_put new (entry ∷ entries) table none =
    by (is_earlier entry new) refl (table_put new entries table.1 later)
  where
    later : moment_in entries new.1 ≡ None
    later = rest_differs entry entries new.1 none

    differs : nat_eq entry.1 new.1 ≡ false
    differs = first_differs entry entries new.1 none

    by : (t : Bool) → is_earlier entry new ≡ t → IsTable (put_in new entries) →
        IsTable (cond t (entry ∷ put_in new entries) (new ∷ entry ∷ entries))
    by true e more = (
      all_put (ComesFirst entry) new entries table.0 (e, eq_turned entry.1 new.1 false differs),
      more,
    )
    by false e more =
        let before = earlier_other entry new differs e in
        (((before, differs), behind new entry entries before table.0 later), table)

-- a table with a page set is a table
pub table_with : (page moment : ℕ) (entries : List (ℕ × ℕ)) → IsTable entries →
    IsTable (with_moment page moment entries)
table_with page moment entries table =
    table_put (moment, page) (without page entries)
    (table_kept (λ entry. not (is_of page entry)) entries table) (none_without page entries)

-- a pair put in behind those that come before it is one inserted at their number
pub put_at_place : (new : ℕ × ℕ) (entries : List (ℕ × ℕ)) →
    insert entries (leading (λ entry. is_earlier entry new) entries) new ≡ put_in new entries
put_at_place new [] = refl
put_at_place new (entry ∷ entries) = by (is_earlier entry new) (put_at_place new entries)
  where
    by : (t : Bool) →
        insert entries (leading (λ entry. is_earlier entry new) entries) new ≡ put_in new entries →
        insert (entry ∷ entries) (cond t (suc (leading (λ entry. is_earlier entry new) entries)) 0) new
        ≡ cond t (entry ∷ put_in new entries) (new ∷ entry ∷ entries)
    by true more = ap (λ (rest : List (ℕ × ℕ)). entry ∷ rest) more
    by false more = refl

-- no more pairs are at the front than there are
pub leading_within : (test : ℕ × ℕ → Bool) (entries : List (ℕ × ℕ)) →
    leading test entries ≤ length entries
leading_within test [] = omega arith
leading_within test (entry ∷ entries) = by (test entry) (leading_within test entries)
  where
    by : (t : Bool) → leading test entries ≤ length entries →
        cond t (suc (leading test entries)) 0 ≤ length (entry ∷ entries)
    by true more = omega arith
    by false more = omega arith

-- where no pair behind is of the page, taking its pairs out leaves all
none_taken : (page : ℕ) (entry : ℕ × ℕ) (entries : List (ℕ × ℕ)) → nat_eq entry.1 page ≡ true →
    AllByRecursion (ComesFirst entry) entries → without page entries ≡ entries
none_taken page entry [] own all = refl
none_taken page entry (next ∷ entries) own all =
    let same = eq_means entry.1 page own in
    let differs : nat_eq next.1 page ≡ false = rw same at all.0.1 in
    rw differs (ap (λ (rest : List (ℕ × ℕ)). next ∷ rest) (none_taken page entry entries own all.1))

-- where none of the pairs is of the page, taking its pairs out leaves all
pub nothing_taken : (page : ℕ) (entries : List (ℕ × ℕ)) → moment_in entries page ≡ None →
    without page entries ≡ entries
nothing_taken page [] none = refl
nothing_taken page (entry ∷ entries) none =
    rw (first_differs entry entries page none)
    (ap (λ (rest : List (ℕ × ℕ)). entry ∷ rest)
    (nothing_taken page entries (rest_differs entry entries page none)))

-- what taking the pair of a page out comes to, where the first pair is of the page or not, and comes
-- before that of the page or not
abbrev IsTaken : ℕ → ℕ → ℕ × ℕ → List (ℕ × ℕ) → Bool → Bool → Type 0
IsTaken page at entry entries own before =
    (cond before (suc (leading (λ entry. is_earlier entry (at, page)) entries)) 0
    < length (entry ∷ entries))
    × (remove (entry ∷ entries)
    (cond before (suc (leading (λ entry. is_earlier entry (at, page)) entries)) 0)
    ≡ cond (not own) (entry ∷ without page entries) (without page entries))

-- the pair of a page stands at the number of those that come before it
pub taken_at_place : (page at : ℕ) (entries : List (ℕ × ℕ)) → IsTable entries →
    moment_in entries page ≡ Some at →
    (leading (λ entry. is_earlier entry (at, page)) entries < length entries)
    × (remove entries (leading (λ entry. is_earlier entry (at, page)) entries)
    ≡ without page entries)
taken_at_place page at [] table is = cc
taken_at_place page at (entry ∷ entries) table is =
    by (nat_eq entry.1 page) refl is (taken_at_place page at entries table.1)
  where
    by : (t : Bool) → nat_eq entry.1 page ≡ t →
        cond t (Some entry.0) (moment_in entries page) ≡ Some at →
        (moment_in entries page ≡ Some at →
        (leading (λ entry. is_earlier entry (at, page)) entries < length entries)
        × (remove entries (leading (λ entry. is_earlier entry (at, page)) entries)
        ≡ without page entries)) →
        IsTaken page at entry entries t (is_earlier entry (at, page))
    by true own found more =
        let moment : entry.0 ≡ at = cc in
        let same = eq_means entry.1 page own in
        let late : is_earlier entry (at, page) ≡ false =
        earlier_self entry.0 at entry.1 page moment same in
        subst (IsTaken page at entry entries true) (sym late)
        (omega arith, sym (none_taken page entry entries own table.0))
    by false own found more =
        let first = all_found (ComesFirst entry) page at entries table.0 found in
        let rest = more found in
        let low = rest.0 in
        subst (IsTaken page at entry entries false) (sym first.0)
        (omega arith, ap (λ (rest : List (ℕ × ℕ)). entry ∷ rest) rest.1)

-- What is kept after a page got its first moment stands for the pairs with it.
pub put_kept : (moments later order : List (ℕ × ℕ)) (page at : ℕ) → IsKept moments order →
    moment_in order page ≡ None →
    ((other : ℕ) → lookup (nat_eq other) later
    ≡ cond (nat_eq page other) (Some at) (lookup (nat_eq other) moments)) →
    IsKept later (put_in (at, page) order)
put_kept moments later order page at kept none puts = record {
  found = λ other.
      puts other ∙ ap (λ (o : Option ℕ). cond (nat_eq page other) (Some at) o) (kept.found other)
      ∙ sym (found_put (at, page) other order none);
  table = table_put (at, page) order kept.table none;
}

-- What is kept after a page's moment was taken away stands for the pairs without it.
pub taken_kept : (moments later order : List (ℕ × ℕ)) (page : ℕ) → IsKept moments order →
    ((other : ℕ) → lookup (nat_eq other) later
    ≡ cond (nat_eq page other) None (lookup (nat_eq other) moments)) →
    IsKept later (without page order)
taken_kept moments later order page kept takes = record {
  found = λ other.
      takes other ∙ ap (λ (o : Option ℕ). cond (nat_eq page other) None o) (kept.found other)
      ∙ sym (found_without page other order);
  table = table_kept (λ entry. not (is_of page entry)) order kept.table;
}
