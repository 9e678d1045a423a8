-- The aliases that a deletion leaves without their source: each is an alias, each is listed once,
-- and each page that stays and shows one that goes is listed.
use Rattle.std.proofs.Common.{◌≡◌, ◌+◌, ◌≤◌, ℕ, Bool, true, false, cond, not, ◌||◌, ◌&&◌, nat_eq, List, [], ◌∷◌, ◌++◌, Option, Some, None, refl, sym, subst, arith}
use Rattle.std.specs.List.{AllByRecursion, list_any}
use Rattle.page_tree.specs.Tree.{Forest, bare, grown, HasDistinctIds, has_page}
use Rattle.page_tree.specs.Rows.{Row, rows_below, rows_of, child_url, comes_before}
use Rattle.site_types.specs.declared.body.Body.{Body}
use Rattle.tree_model.specs.Shape.{AllPages}
use Rattle.tree_model.proofs.CountLemmas.{one, count, once, not_first, apart_by_test, told_apart}
use Rattle.tree_model.proofs.PageLemmas.{AllPages-weaker, all_weaker}
use Rattle.tree_model.proofs.SiblingLemmas.{all_append, all_parts}
use Rattle.site_model.specs.Views.{body_of}
use Rattle.site_model.specs.Users.{put_in}
use Rattle.site_model.specs.Bodies.{rebodied}
use Rattle.site_model.specs.Delete.{is_source_gone, loses_source, id_key, losing_source}
use Rattle.site_model.proofs.BodyLemmas.{AllPages-found, AllPages-rebodied, AllPages-changed, there-rebodied}
use Rattle.site_model.proofs.DetachSound.{IsAliasPage}
use Rattle.site_model.proofs.OrderLemmas.{all_put}
use Rattle.site_model.proofs.SourceLemmas.{body_there, body_holds, found_is_there, found_alone}

module _ {Kept : Type 0} (Q : ℕ → Kept → Type 0) where
  -- what holds of each page holds of each row
  rows_have : (parent : Option ℕ) (path url : List ℕ) (f : Forest Kept) →
      AllPages (λ id slug body. Q id body) f →
      AllByRecursion (λ (row : Row Kept). Q row.id row.body) (rows_below parent path url f)
  rows_have parent path url bare all = tt
  rows_have parent path url (grown i step slug body kids rest) all = (
    all.0,
    all_append _ _ _ (rows_have (Some i) (path ++ step ∷ []) (child_url url slug) kids all.1)
        (rows_have parent path url rest all.2),
  )

  -- and what holds of each row holds of each page
  pages_have : (parent : Option ℕ) (path url : List ℕ) (f : Forest Kept) →
      AllByRecursion (λ (row : Row Kept). Q row.id row.body) (rows_below parent path url f) →
      AllPages (λ id slug body. Q id body) f
  pages_have parent path url bare all = tt
  pages_have parent path url (grown i step slug body kids rest) all =
      let parts = all_parts _ (rows_below (Some i) (path ++ step ∷ []) (child_url url slug) kids)
      (rows_below parent path url rest) all.1 in (
        all.0,
        pages_have (Some i) (path ++ step ∷ []) (child_url url slug) kids parts.0,
        pages_have parent path url rest parts.1,
      )

  -- what holds of the pages with each id holds of each page
  all_each : (f : Forest Kept) →
      ((page : ℕ) → AllPages (λ id slug body. id ≡ page → Q page body) f) →
      AllPages (λ id slug body. Q id body) f
  all_each bare each = tt
  all_each (grown i step slug body kids rest) each = (
    (each i).0 refl,
    all_each kids (λ page. (each page).1),
    all_each rest (λ page. (each page).2),
  )

-- how often an id stands in a list
abbrev pub times : ℕ → List ℕ → ℕ
times id [] = 0
times id (other ∷ ids) = one (nat_eq other id) + times id ids

-- how many rows have an id
abbrev pub row_times : ℕ → List (Row Body) → ℕ
row_times id [] = 0
row_times id (row ∷ rows) = one (nat_eq row.id id) + row_times id rows

-- two lists of rows have it as often as both together
row_times-append : (id : ℕ) (xs ys : List (Row Body)) →
    row_times id (xs ++ ys) ≡ row_times id xs + row_times id ys
row_times-append id [] ys = omega arith
row_times-append id (row ∷ xs) ys =
    let more = row_times-append id xs ys in omega (arith, more)

-- as many as there are pages
pub rows_count : (id : ℕ) (parent : Option ℕ) (path url : List ℕ) (f : Forest Body) →
    row_times id (rows_below parent path url f) ≡ count id f
rows_count id parent path url bare = refl
rows_count id parent path url (grown i step slug body kids rest) =
    let below = rows_count id (Some i) (path ++ step ∷ []) (child_url url slug) kids in
    let after = rows_count id parent path url rest in
    let both = row_times-append id
    (rows_below (Some i) (path ++ step ∷ []) (child_url url slug) kids)
    (rows_below parent path url rest) in omega (arith, below, after, both)

-- an id in its place stands there once more
times_put : (id new : ℕ) (ids : List ℕ) →
    times id (put_in id_key new ids) ≡ one (nat_eq new id) + times id ids
times_put id new [] = refl
times_put id new (other ∷ ids) =
    choice (comes_before (id_key new) (id_key other)) (times_put id new ids)
  where
    choice : (t : Bool) → times id (put_in id_key new ids) ≡ one (nat_eq new id) + times id ids →
        times id (cond t (new ∷ other ∷ ids) (other ∷ put_in id_key new ids))
        ≡ one (nat_eq new id) + times id (other ∷ ids)
    choice true more = refl
    choice false more = omega (arith, more)

-- a test is passed with one more in its place where that passes it, or another does
pub any_put : (test : ℕ → Bool) (new : ℕ) (ids : List ℕ) →
    list_any test (put_in id_key new ids) ≡ (test new || list_any test ids)
any_put test new [] = refl
any_put test new (other ∷ ids) =
    choice (comes_before (id_key new) (id_key other)) (any_put test new ids)
  where
    swapped : (a b c d : Bool) → d ≡ (a || c) → (b || d) ≡ (a || (b || c))
    swapped true true c d same = refl
    swapped true false c d same = same
    swapped false true c d same = refl
    swapped false false c d same = same

    choice : (t : Bool) → list_any test (put_in id_key new ids) ≡ (test new || list_any test ids) →
        list_any test (cond t (new ∷ other ∷ ids) (other ∷ put_in id_key new ids))
        ≡ (test new || list_any test (other ∷ ids))
    choice true more = refl
    choice false more = swapped (test new) (test other) _ _ more

-- an id is listed no more often than rows have it
pub times_losing : (gone : Forest Body) (id : ℕ) (rows : List (Row Body)) →
    times id (losing_source gone rows) ≤ row_times id rows
times_losing gone id [] = omega arith
times_losing gone id (row ∷ rows) = choice (loses_source gone row) (times_losing gone id rows)
  where
    choice : (t : Bool) → times id (losing_source gone rows) ≤ row_times id rows →
        times id (cond t (put_in id_key row.id (losing_source gone rows)) (losing_source gone rows))
        ≤ one (nat_eq row.id id) + row_times id rows
    choice true more =
        let sum = times_put id row.id (losing_source gone rows) in omega (arith, more, sum)
    choice false more = omega (arith, more)

-- what follows of each row that loses its source holds of each that is listed
pub losing_all : (P : ℕ → Type 0) (gone : Forest Body) (rows : List (Row Body)) →
    AllByRecursion (λ (row : Row Body). loses_source gone row ≡ true → P row.id) rows →
    AllByRecursion P (losing_source gone rows)
losing_all P gone [] all = tt
losing_all P gone (row ∷ rows) all =
    choice (loses_source gone row) refl (losing_all P gone rows all.1)
  where
    choice : (t : Bool) → loses_source gone row ≡ t → AllByRecursion P (losing_source gone rows) →
        AllByRecursion P
        (cond t (put_in id_key row.id (losing_source gone rows)) (losing_source gone rows))
    choice true is more = all_put P id_key row.id _ (all.0 is) more
    choice false is more = more

-- each row that loses its source is listed
losing_listed : (gone : Forest Body) (rows : List (Row Body)) →
    AllByRecursion
    (λ (row : Row Body). loses_source gone row ≡ true →
    list_any (λ id. nat_eq id row.id) (losing_source gone rows) ≡ true) rows
losing_listed gone [] = tt
losing_listed gone (row ∷ rows) =
    choice (loses_source gone row) (losing_listed gone rows)
  where
    Listed : List ℕ → Row Body → Type 0
    Listed ids other = loses_source gone other ≡ true →
        list_any (λ id. nat_eq id other.id) ids ≡ true

    same_id : (n : ℕ) → nat_eq n n ≡ true
    same_id n = grind arith

    or_true : (a b : Bool) → b ≡ true → (a || b) ≡ true
    or_true true b is = refl
    or_true false b is = is

    choice : (t : Bool) → AllByRecursion (Listed (losing_source gone rows)) rows →
        (t ≡ true → list_any (λ id. nat_eq id row.id)
        (cond t (put_in id_key row.id (losing_source gone rows)) (losing_source gone rows)) ≡ true)
        × AllByRecursion (Listed
        (cond t (put_in id_key row.id (losing_source gone rows)) (losing_source gone rows))) rows
    choice true more = (
      (λ is. rw (
        any_put (λ id. nat_eq id row.id) row.id (losing_source gone rows),
        same_id row.id,
      ) refl),
      all_weaker (Listed (losing_source gone rows)) _ rows
          (λ other listed loses. rw
          (any_put (λ id. nat_eq id other.id) row.id (losing_source gone rows))
          (or_true (nat_eq row.id other.id) _ (listed loses))) more,
    )
    choice false more = ((λ is. absurd (cc)), more)

-- a page that stays and shows one that goes is among these
abbrev pub Waits : Forest Body → List ℕ → ℕ → Body → Type 0
Waits gone ids id body =
    has_page id gone ≡ false → is_source_gone gone body.source ≡ true →
    list_any (λ one. nat_eq one id) ids ≡ true

-- each page waits that stays and shows one that goes
pub all_wait : (gone tree : Forest Body) →
    AllPages (λ id slug body. Waits gone (losing_source gone (rows_of tree)) id body) tree
all_wait gone tree =
    AllPages-weaker
    (λ id slug body. (not (has_page id gone) && is_source_gone gone body.source) ≡ true →
    list_any (λ one. nat_eq one id) (losing_source gone (rows_of tree)) ≡ true) _ tree
    (λ id slug body listed out goes. listed (rw (out, goes) refl))
    (pages_have (λ id body. (not (has_page id gone) && is_source_gone gone body.source) ≡ true →
    list_any (λ one. nat_eq one id) (losing_source gone (rows_of tree)) ≡ true) None [] [] tree
    (losing_listed gone (rows_of tree)))

-- what is found of each page is what is kept of it
each_found : (tree : Forest Body) → HasDistinctIds tree →
    AllPages (λ id slug body. body_of tree id ≡ Some body) tree
each_found tree distinct =
    all_each (λ id body. body_of tree id ≡ Some body) tree
    (λ page. AllPages-found page tree (once tree distinct page))

-- each that is listed is an alias
pub all_aliases : (gone tree : Forest Body) → HasDistinctIds tree →
    AllByRecursion (IsAliasPage tree) (losing_source gone (rows_of tree))
all_aliases gone tree distinct =
    losing_all (IsAliasPage tree) gone (rows_of tree)
    (rows_have (λ id body. (not (has_page id gone) && is_source_gone gone body.source) ≡ true →
    IsAliasPage tree id) None [] [] tree
    (AllPages-weaker (λ id slug body. body_of tree id ≡ Some body) _ tree
    (λ id slug body found loses. by id body found body.source refl (not (has_page id gone)) loses)
    (each_found tree distinct)))
  where
    by : (id : ℕ) (body : Body) → body_of tree id ≡ Some body → (source : Option ℕ) →
        body.source ≡ source → (t : Bool) → (t && is_source_gone gone source) ≡ true →
        IsAliasPage tree id
    by id body found (Some source) is t loses =
        record { body = body; found = found; source = source; is = is }
    by id body found None is true loses = absurd (cc)
    by id body found None is false loses = absurd (cc)

-- each is listed once at most
pub listed_once : (gone tree : Forest Body) (id : ℕ) → HasDistinctIds tree →
    times id (losing_source gone (rows_of tree)) ≤ 1
listed_once gone tree id distinct =
    let few = times_losing gone id (rows_of tree) in
    let same = rows_count id None [] [] tree in
    let most = once tree distinct id in omega (arith, few, same, most)

-- an id that stands nowhere in a list differs from each
pub none_listed : (id : ℕ) (ids : List ℕ) → times id ids ≡ 0 →
    AllByRecursion (λ (other : ℕ). other ≡ id → ⊥) ids
none_listed id [] none = tt
none_listed id (other ∷ ids) none = (
  apart_by_test other id (not_first id other (times id ids) none),
  none_listed id ids (omega (arith, none)),
)

-- an alias stays one where another page has another body
pub alias_stays : (page : ℕ) (change : Body → Body) (tree : Forest Body) (id : ℕ) →
    HasDistinctIds tree → (id ≡ page → ⊥) → IsAliasPage tree id →
    IsAliasPage (rebodied page change tree) id
alias_stays page change tree id distinct other alias =
    let after = rebodied page change tree in
    let there = there-rebodied page id change tree
    (found_is_there tree id alias.body alias.found) in
    let found = body_there after id there in
    let same = body_holds (λ one own. one ≡ id → own ≡ alias.body) after id found.body
    (AllPages-rebodied page change (λ one slug own. one ≡ id → own ≡ alias.body) tree
    (λ slug own old here. absurd (other (sym here)))
    (found_alone tree id alias.body distinct alias.found)) found.is refl in
    record {
      body = found.body;
      found = found.is;
      source = alias.source;
      is = subst (λ (own : Body). own.source ≡ Some alias.source) (sym same) alias.is;
    }

-- the page that became a regular one waits no more
pub others_wait : (gone : Forest Body) (alias : ℕ) (ids : List ℕ) (change : Body → Body)
    (tree : Forest Body) → HasDistinctIds tree → ((body : Body) → (change body).source ≡ None) →
    AllPages (λ id slug body. Waits gone (alias ∷ ids) id body) tree →
    AllPages (λ id slug body. Waits gone ids id body) (rebodied alias change tree)
others_wait gone alias ids change tree distinct none all =
    AllPages-changed alias change (λ id slug body. Waits gone (alias ∷ ids) id body)
    (λ id slug body. Waits gone ids id body) tree (once tree distinct alias)
    (λ slug body old out goes. absurd (both_values (rw (none body) at goes)))
    (λ id slug body other old out goes. rw
    (told_apart alias id (λ same. other (sym same))) at (old out goes)) all
  where
    both_values : false ≡ true → ⊥
    both_values e = cc
