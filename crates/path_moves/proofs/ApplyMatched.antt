-- Rows that are relabelled as a list of changes says are the rows that the changes lead to.
use Rattle.std.proofs.Common.{◌≡◌, ℕ, suc, ◌+◌, Bool, true, false, cond, nat_eq, List, [], ◌∷◌, Some, map, find, filter, take, length, unwrap_or, refl, ap, sym, ◌∙◌}
use Prim.Native.Nat.{zero}
use Rattle.std.specs.List.{AllByRecursion}
use Rattle.std.specs.Map.{lookup}
use Rattle.std.specs.Option.{option_map}
use Rattle.std.specs.Str.{bytes_eq}
use Rattle.page_tree.specs.Rows.{row_with, kids_in, is_parent}
use Rattle.tree_model.specs.Changes.{path_in, url_in, changed_paths, with_url, with_urls}
use Rattle.page_store.specs.PageRows.{parent_id, above}
use Rattle.page_store.specs.Pages.{Page, ArePages}
use Rattle.page_store.specs.Relabelling.{range_moved, relisted, reparented, recounted, relabelled_rows}
use Rattle.page_store.proofs.AllLemmas.{All-append}
use Rattle.page_store.proofs.RangeLemmas.{All-drop}
use Rattle.page_store.proofs.SeenLemmas.{found_by_own_id}
use Rattle.path_moves.proofs.ApplyChanges.{changes-told}
use Rattle.page_store.proofs.WindowLemmas.{All-take}

-- R holds of the rows at each place of two lists, which are equally long
abbrev EachTwo : (Page → Page → Type 0) → List Page → List Page → Type 0
EachTwo R [] [] = Unit {0}
EachTwo R [] (y ∷ ys) = ⊥
EachTwo R (x ∷ xs) [] = ⊥
EachTwo R (x ∷ xs) (y ∷ ys) = R x y × EachTwo R xs ys

-- A page of the later rows was there before, with the slug and the fields that it has.
pub record Stays (before : List Page) (row : Page) : Type 0 where
  pub old : Page
  pub found : row_with row.id before ≡ Some old
  pub slug_is : old.slug ≡ row.slug
  pub body_is : old.body ≡ row.body

-- the URL that a page has behind a relabelling
abbrev url_then : List (ℕ × List ℕ) → List Page → Page → List ℕ
url_then urls before row = unwrap_or (lookup (nat_eq row.id) urls) (url_in row.id before)

-- A row is a later one, as far as its parent and its child count do not matter.
record Agrees (urls : List (ℕ × List ℕ)) (before : List Page) (row later : Page) : Type 0 where
  pub id_is : row.id ≡ later.id
  pub path_is : row.path ≡ later.path
  pub url_is : row.url ≡ url_then urls before later
  pub slug_is : row.slug ≡ later.slug
  pub body_is : row.body ≡ later.body

-- A row is a later one, as far as its child count does not matter.
record AgreesBelow (urls : List (ℕ × List ℕ)) (before : List Page) (row later : Page) : Type 0 where
  pub parent_is : row.parent ≡ later.parent
  pub agrees : Agrees urls before row later

-- a page that stays has its old path among the rows before
path_before : (before : List Page) (id : ℕ) (old : Page) → row_with id before ≡ Some old →
    path_in id before ≡ old.path
path_before before id old found = rw found refl

-- and its old URL
url_before : (before : List Page) (id : ℕ) (old : Page) → row_with id before ≡ Some old →
    url_in id before ≡ old.url
url_before before id old found = rw found refl

module _ (urls : List (ℕ × List ℕ)) (before : List Page) where
  -- a row with the listed path and URL
  listed_one : (paths : List (ℕ × List ℕ)) (row later : Page) → row.id ≡ later.id →
      row_with row.id before ≡ Some row → Stays before later →
      unwrap_or (lookup (nat_eq later.id) paths) (path_in later.id before) ≡ later.path →
      Agrees urls before (relisted paths urls row) later
  listed_one paths row later same found stays told =
      let again : row_with later.id before ≡ Some row =
      ap (λ id. row_with id before) (sym same) ∙ found in
      let one : stays.old ≡ row =
      (let both : Some stays.old ≡ Some row = sym stays.found ∙ again in cc) in
      record {
        id_is = same;
        path_is = ap (λ id. unwrap_or (lookup (nat_eq id) paths) row.path) same
            ∙ (ap (λ path. unwrap_or (lookup (nat_eq later.id) paths) path)
            (sym (path_before before later.id row again)) ∙ told);
        url_is = ap (λ id. unwrap_or (lookup (nat_eq id) urls) row.url) same
            ∙ ap (λ url. unwrap_or (lookup (nat_eq later.id) urls) url)
            (sym (url_before before later.id row again));
        slug_is = ap (λ (r : Page). r.slug) (sym one) ∙ stays.slug_is;
        body_is = ap (λ (r : Page). r.body) (sym one) ∙ stays.body_is;
      }

  -- the rows with the listed paths and URLs
  listed_all : (paths : List (ℕ × List ℕ)) (rows after : List Page) →
      map (λ (row : Page). row.id) rows ≡ map (λ (row : Page). row.id) after →
      AllByRecursion (λ (row : Page). row_with row.id before ≡ Some row) rows →
      AllByRecursion (Stays before) after →
      AllByRecursion (λ (later : Page). unwrap_or (lookup (nat_eq later.id) paths)
      (path_in later.id before) ≡ later.path) after →
      EachTwo (Agrees urls before) (map (relisted paths urls) rows) after
  listed_all paths [] [] same found stay told = tt
  listed_all paths [] (y ∷ after) same found stay told = absurd cc
  listed_all paths (x ∷ rows) [] same found stay told = absurd cc
  listed_all paths (x ∷ rows) (y ∷ after) same found stay told =
      let head : x.id ≡ y.id = cc in
      let tail : map (λ (row : Page). row.id) rows ≡ map (λ (row : Page). row.id) after = cc in (
        listed_one paths x y head found.0 stay.0 told.0,
        listed_all paths rows after tail found.1 stay.1 told.1,
      )

  -- rows that agree have one page at a path
  parent_id-agree : (path : List ℕ) (rows after : List Page) →
      EachTwo (Agrees urls before) rows after → parent_id path rows ≡ parent_id path after
  parent_id-agree path [] [] agree = refl
  parent_id-agree path [] (y ∷ after) agree = absurd agree
  parent_id-agree path (x ∷ rows) [] agree = absurd agree
  parent_id-agree path (x ∷ rows) (y ∷ after) agree =
      by (bytes_eq x.path (above path)) (bytes_eq y.path (above path))
      (ap (λ own. bytes_eq own (above path)) agree.0.path_is)
      (parent_id-agree path rows after agree.1)
    where
      by : (t u : Bool) → t ≡ u → parent_id path rows ≡ parent_id path after →
          option_map (λ (row : Page). row.id) (cond t (Some x)
          (find (λ (row : Page). bytes_eq row.path (above path)) rows))
          ≡ option_map (λ (row : Page). row.id) (cond u (Some y)
          (find (λ (row : Page). bytes_eq row.path (above path)) after))
      by true true e more = ap Some agree.0.id_is
      by true false e more = absurd cc
      by false true e more = absurd cc
      by false false e more = more

  -- and their parents are the later ones
  parents_all : (all whole : List Page) →
      ((path : List ℕ) → parent_id path all ≡ parent_id path whole) → (rows after : List Page) →
      EachTwo (Agrees urls before) rows after →
      AllByRecursion (λ row. row.parent ≡ parent_id row.path whole) after →
      EachTwo (AgreesBelow urls before) (map (reparented all) rows) after
  parents_all all whole same [] [] agree parents = tt
  parents_all all whole same [] (y ∷ after) agree parents = absurd agree
  parents_all all whole same (x ∷ rows) [] agree parents = absurd agree
  parents_all all whole same (x ∷ rows) (y ∷ after) agree parents = (
    record {
      parent_is = same x.path
          ∙ (ap (λ path. parent_id path whole) agree.0.path_is ∙ sym parents.0);
      agrees = record {
        id_is = agree.0.id_is;
        path_is = agree.0.path_is;
        url_is = agree.0.url_is;
        slug_is = agree.0.slug_is;
        body_is = agree.0.body_is;
      };
    },
    parents_all all whole same rows after agree.1 parents.1,
  )

  -- rows that agree so far have the same kids
  kids_in-agree : (id : ℕ) (rows after : List Page) →
      EachTwo (AgreesBelow urls before) rows after → kids_in id rows ≡ kids_in id after
  kids_in-agree id [] [] agree = refl
  kids_in-agree id [] (y ∷ after) agree = absurd agree
  kids_in-agree id (x ∷ rows) [] agree = absurd agree
  kids_in-agree id (x ∷ rows) (y ∷ after) agree =
      by (is_parent id x.parent) (is_parent id y.parent)
      (ap (is_parent id) agree.0.parent_is) (kids_in-agree id rows after agree.1)
    where
      by : (t u : Bool) → t ≡ u → kids_in id rows ≡ kids_in id after →
          map (λ (row : Page). row.id) (cond t
          (x ∷ filter (λ (row : Page). is_parent id row.parent) rows)
          (filter (λ (row : Page). is_parent id row.parent) rows))
          ≡ map (λ (row : Page). row.id) (cond u
          (y ∷ filter (λ (row : Page). is_parent id row.parent) after)
          (filter (λ (row : Page). is_parent id row.parent) after))
      by true true e more = let same = agree.0.agrees.id_is in cc
      by true false e more = absurd cc
      by false true e more = absurd cc
      by false false e more = more

  -- one row with its child count
  counted_one : (n : ℕ) (row later : Page) → AgreesBelow urls before row later →
      later.numchild ≡ n → record row { numchild = n } ≡ with_url (url_then urls before later) later
  counted_one n row later agree count =
      let same = agree.agrees in
      let id = same.id_is in
      let parent = agree.parent_is in
      let path = same.path_is in
      let url = same.url_is in
      let slug = same.slug_is in
      let body = same.body_is in
      cc

  -- with the child counts, they are the later rows
  counted_all : (all whole : List Page) → ((id : ℕ) → kids_in id all ≡ kids_in id whole) →
      (rows after : List Page) → EachTwo (AgreesBelow urls before) rows after →
      AllByRecursion (λ row. row.numchild ≡ length (kids_in row.id whole)) after →
      map (recounted all) rows ≡ map (λ row. with_url (url_then urls before row) row) after
  counted_all all whole same [] [] agree counts = refl
  counted_all all whole same [] (y ∷ after) agree counts = absurd agree
  counted_all all whole same (x ∷ rows) [] agree counts = absurd agree
  counted_all all whole same (x ∷ rows) (y ∷ after) agree counts =
      let count : y.numchild ≡ length (kids_in x.id all) =
      counts.0 ∙ (ap (λ id. length (kids_in id whole)) (sym agree.0.agrees.id_is)
      ∙ ap length (sym (same x.id))) in
      let head = counted_one (length (kids_in x.id all)) x y agree.0 count in
      let tail = counted_all all whole same rows after agree.1 counts.1 in
      rw (head, tail) refl

-- what holds of each row holds of each where some are moved
pub All-range_moved : (P : Page → Type 0) (from n place : ℕ) (rows : List Page) →
    AllByRecursion P rows → AllByRecursion P (range_moved from n place rows)
All-range_moved P from n place rows all =
    let rest = All-append P _ _ (All-take P from rows all) (All-drop P (from + n) rows all) in
    All-append P _ _ (All-take P place _ rest)
    (All-append P _ _ (All-take P n _ (All-drop P from rows all)) (All-drop P place _ rest))

-- Rows that are moved and get the changed paths are the later rows, where those are the rows of a
-- tree with the same ids in that order, slugs and fields.
pub relabelled_are : (from n place : ℕ) (urls : List (ℕ × List ℕ)) (before after : List Page) →
    ArePages before → ArePages after →
    map (λ (row : Page). row.id) (range_moved from n place before)
    ≡ map (λ (row : Page). row.id) after → AllByRecursion (Stays before) after →
    relabelled_rows from n place (changed_paths before after) urls before
    ≡ with_urls urls before after
relabelled_are from n place urls before after are later ids stay =
    let paths = changed_paths before after in
    let moved = range_moved from n place before in
    let found = All-range_moved (λ (row : Page). row_with row.id before ≡ Some row) from n place
    before (found_by_own_id before are.own_ids) in
    let told = changes-told (λ id. path_in id before) (λ row. row.path) after later.own_ids in
    let listed = map (relisted paths urls) moved in
    let agree = listed_all urls before paths moved after ids found stay told in
    let below = map (reparented listed) listed in
    let parents = parents_all urls before listed after
    (λ path. parent_id-agree urls before path listed after agree) listed after agree later.parents
    in
    counted_all urls before below after
    (λ id. kids_in-agree urls before id below after parents) below after parents later.counts
