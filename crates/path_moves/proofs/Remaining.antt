-- The rows that remain where a page's own are taken out, by their places among all.
use Rattle.std.proofs.Common.{◌≡◌, ℕ, suc, ◌+◌, ◌-◌, ◌<◌, Bool, true, false, not, cond, nat_eq, List, [], ◌∷◌, ◌++◌, Option, Some, map, filter, length, take, drop, slice_get, refl, ap, sym, ◌∙◌, arith, length-append}
use Rattle.std.specs.List.{AllByRecursion}
use Rattle.std.proofs.lemmas.Bool.Decides.{nat_tests}
use Rattle.std.proofs.lemmas.List.{take-append-drop}
use Rattle.std.proofs.lemmas.List.Elements.{filter-append}
use Rattle.page_tree.specs.Rows.{row_with, is_parent}
use Rattle.step_path.specs.Path.{BeginsWith}
use Rattle.page_store.specs.PageRows.{IsRange}
use Rattle.page_store.specs.Pages.{Page, EachPair, HasOtherId}
use Rattle.page_store.specs.Search.{begins}
use Rattle.page_store.proofs.PathOrder.{begins-self, begins-BeginsWith, BeginsWith-begins}
use Rattle.page_store.proofs.AllLemmas.{All-weaker}
use Rattle.page_store.proofs.RangeLemmas.{pairs_at, drop_at_place}
use Rattle.tree_rows.specs.Cuts.{lower_row, end_of, place_of}
use Rattle.tree_rows.proofs.Lists.{filter_middle}
use Rattle.tree_rows.proofs.SubtreeLemmas.{fails_from}
use Rattle.path_moves.proofs.LawLemmas.{leading-front, other_id}
use Rattle.path_moves.proofs.Windows.{between, failing, Passes, between_next, two_splits, take_last, take_split, All-narrower}
pub use Rattle.page_tree.proofs.RowLemmas.{found_id}

-- what holds of each element holds of those that are kept
pub All-kept : {X : Type 0} (P : X → Type 0) (test : X → Bool) (xs : List X) →
    AllByRecursion P xs → AllByRecursion P (filter test xs)
All-kept P test [] all = tt
All-kept P test (x ∷ xs) all = by (test x) (All-kept P test xs all.1)
  where
    by : (t : Bool) → AllByRecursion P (filter test xs) →
        AllByRecursion P (cond t (x ∷ filter test xs) (filter test xs))
    by true more = (all.0, more)
    by false more = more

-- each that is kept passes the test
pub All-passes : {X : Type 0} (test : X → Bool) (xs : List X) →
    AllByRecursion (λ x. test x ≡ true) (filter test xs)
All-passes test [] = tt
All-passes test (x ∷ xs) = by (test x) refl (All-passes test xs)
  where
    by : (t : Bool) → test x ≡ t → AllByRecursion (λ x. test x ≡ true) (filter test xs) →
        AllByRecursion (λ x. test x ≡ true) (cond t (x ∷ filter test xs) (filter test xs))
    by true e more = (e, more)
    by false e more = more

-- lists that are joined, with first parts of one length, have the same parts
pub same_parts : {X : Type 0} (xs ys xs' ys' : List X) → length xs ≡ length xs' →
    xs ++ ys ≡ xs' ++ ys' → (xs ≡ xs') × (ys ≡ ys')
same_parts [] ys [] ys' long same = (refl, same)
same_parts [] ys (x' ∷ xs') ys' long same = absurd (omega arith)
same_parts (x ∷ xs) ys [] ys' long same = absurd (omega arith)
same_parts (x ∷ xs) ys (x' ∷ xs') ys' long same =
    let one : x ≡ x' = cc in
    let tails : xs ++ ys ≡ xs' ++ ys' = cc in
    let more = same_parts xs ys xs' ys' (omega arith) tails in
    (let heads : x ∷ xs ≡ x' ∷ xs' = (let rest = more.0 in cc) in heads, more.1)

-- the rows of a range are where its page's path begins paths
pub passes_range : (pages : List Page) (row : Page) (place n : ℕ) → IsRange pages row place n →
    Passes (λ (other : Page). begins row.path other.path) place n pages
passes_range pages row place n range =
    let size : place + n - place ≡ n = omega arith in
    let fails : (other : Page) → (BeginsWith row.path other.path → ⊥) →
    begins row.path other.path ≡ false = λ other out. fails_from _
    (λ e. out (BeginsWith-begins row.path other.path e)) in
    record {
      front = All-weaker _ _ fails _ range.before;
      inside = rw size
          (All-weaker _ (λ (other : Page). begins row.path other.path ≡ true)
          (λ (other : Page) on. begins-BeginsWith row.path other.path on) _ range.inside);
      behind = All-weaker _ _ fails _ range.after;
    }

-- the end of the rows that begin with a path, where those stand together
pub end_of-parts : (path : List ℕ) (front : List Page) (y : Page) (ys behind : List Page) →
    AllByRecursion (λ (row : Page). begins path row.path ≡ false) front →
    AllByRecursion (λ (row : Page). begins path row.path ≡ true) (y ∷ ys) →
    AllByRecursion (λ (row : Page). begins path row.path ≡ false) behind →
    end_of path (front ++ (y ∷ (ys ++ behind))) ≡ length front + suc (length ys)
end_of-parts path front y ys behind out inside rest =
    let outside = All-weaker (λ (row : Page). begins path row.path ≡ false)
    (λ (row : Page). not (begins path row.path) ≡ true) (λ row e. ap not e) front out in
    let start = leading-front (λ (row : Page). not (begins path row.path)) front y (ys ++ behind)
    outside (ap not inside.0) in
    let middle = filter_middle (λ (row : Page). begins path row.path) front (y ∷ ys) behind out
    inside rest in
    rw (start, middle) refl

-- one child less leaves a row's place
pub lower_keeps : (parent : Option ℕ) (row : Page) →
    ((lower_row parent row).id ≡ row.id) × ((lower_row parent row).path ≡ row.path)
    × ((lower_row parent row).url ≡ row.url) × ((lower_row parent row).parent ≡ row.parent)
lower_keeps parent row = by (is_parent row.id parent)
  where
    by : (t : Bool) →
        ((cond t (record row { numchild = row.numchild - 1 }) row).id ≡ row.id)
        × ((cond t (record row { numchild = row.numchild - 1 }) row).path ≡ row.path)
        × ((cond t (record row { numchild = row.numchild - 1 }) row).url ≡ row.url)
        × ((cond t (record row { numchild = row.numchild - 1 }) row).parent ≡ row.parent)
    by true = (refl, refl, refl, refl)
    by false = (refl, refl, refl, refl)

-- places are told by ids
pub place_of-map : (id : ℕ) (f : Page → Page) → ((row : Page) → (f row).id ≡ row.id) →
    (rows : List Page) → place_of id (map f rows) ≡ place_of id rows
place_of-map id f keeps [] = refl
place_of-map id f keeps (row ∷ rows) =
    by (nat_eq (f row).id id) (nat_eq row.id id) (ap (λ n. nat_eq n id) (keeps row))
    (place_of-map id f keeps rows)
  where
    by : (s t : Bool) → s ≡ t → place_of id (map f rows) ≡ place_of id rows →
        cond (not s) (place_of id (map f rows) + 1) 0 ≡ cond (not t) (place_of id rows + 1) 0
    by true true same more = refl
    by false false same more = ap (λ n. n + 1) more
    by true false same more = absurd cc
    by false true same more = absurd cc

-- a row that remains is found among those that remain
pub row_with-cut : (id : ℕ) (parent : Option ℕ) (own : Page → Bool) (rows : List Page)
    (row : Page) → row_with id rows ≡ Some row → own row ≡ false →
    row_with id (map (lower_row parent) (failing own rows)) ≡ Some (lower_row parent row)
row_with-cut id parent own [] row found out = absurd cc
row_with-cut id parent own (one ∷ rows) row found out =
    by (nat_eq one.id id) refl (own one) refl found
    (λ more. row_with-cut id parent own rows row more out)
  where
    skip : (ys : List Page) → nat_eq one.id id ≡ false →
        row_with id (lower_row parent one ∷ ys) ≡ row_with id ys
    skip ys e =
        let differs : nat_eq (lower_row parent one).id id ≡ false =
        ap (λ n. nat_eq n id) (lower_keeps parent one).0 ∙ e in
        ap (λ t. cond t (Some (lower_row parent one)) (row_with id ys)) differs

    by : (t : Bool) → nat_eq one.id id ≡ t → (k : Bool) → own one ≡ k →
        cond t (Some one) (row_with id rows) ≡ Some row →
        (row_with id rows ≡ Some row →
        row_with id (map (lower_row parent) (failing own rows)) ≡ Some (lower_row parent row)) →
        row_with id (map (lower_row parent) (cond (not k) (one ∷ failing own rows)
        (failing own rows))) ≡ Some (lower_row parent row)
    by true e true k found more =
        let same : one ≡ row = cc in
        let never : own row ≡ true = ap own (sym same) ∙ k in absurd cc
    by true e false k found more =
        let same : one ≡ row = cc in
        let here : nat_eq (lower_row parent one).id id ≡ true =
        ap (λ n. nat_eq n id) (lower_keeps parent one).0 ∙ e in
        ap (λ t. cond t (Some (lower_row parent one))
        (row_with id (map (lower_row parent) (failing own rows)))) here
        ∙ ap (λ (r : Page). Some (lower_row parent r)) same
    by false e true k found more = more found
    by false e false k found more =
        skip (map (lower_row parent) (failing own rows)) e ∙ more found

module _ (pages : List Page) (own : Page → Bool) (p n : ℕ) (on : Passes own p n pages) where
  -- the rows that remain, taken apart at a row that remains
  failing_at : (k : ℕ) (row : Page) → slice_get pages k ≡ Some row → own row ≡ false →
      failing own pages ≡ failing own (take k pages) ++ (row ∷ failing own (drop (suc k) pages))
  failing_at k row at out =
      let kept : failing own (row ∷ drop (suc k) pages) ≡ row ∷ failing own (drop (suc k) pages) =
      rw out refl in
      ap (failing own) (sym (take-append-drop k pages))
      ∙ (filter-append (λ x. not (own x)) (take k pages) (drop k pages)
      ∙ ap (λ xs. failing own (take k pages) ++ xs)
      (ap (failing own) (drop_at_place k pages row at) ∙ kept))

  -- the place of a row that remains
  pub place_remaining : (k id : ℕ) (row : Page) → EachPair HasOtherId pages →
      slice_get pages k ≡ Some row → row.id ≡ id → own row ≡ false →
      place_of id (failing own pages) ≡ length (failing own (take k pages))
  place_remaining k id row ids at is out =
      let apart = (pairs_at HasOtherId k pages row ids at).2 in
      let others = All-kept (λ (other : Page). not (nat_eq other.id id) ≡ true) (λ x. not (own x))
      (take k pages)
      (All-weaker (λ (other : Page). HasOtherId other row)
      (λ (other : Page). not (nat_eq other.id id) ≡ true)
      (λ (other : Page) differs. ap not (other_id id other.id (λ e. differs (is ∙ sym e))))
      (take k pages) apart) in
      let same : nat_eq row.id id ≡ true = grind (arith, nat_tests) in
      ap (place_of id) (failing_at k row at out)
      ∙ leading-front (λ (other : Page). not (nat_eq other.id id)) (failing own (take k pages)) row
      (failing own (drop (suc k) pages)) others (ap not same)

  -- one row more remains behind a row that remains
  pub one_remaining : (k : ℕ) (row : Page) → slice_get pages k ≡ Some row → own row ≡ false →
      failing own (take (suc k) pages) ≡ failing own (take k pages) ++ row ∷ []
  one_remaining k row at out =
      let one : failing own (row ∷ []) ≡ row ∷ [] = rw out refl in
      ap (failing own) (take_last k pages row at)
      ∙ (filter-append (λ x. not (own x)) (take k pages) (row ∷ [])
      ∙ ap (λ xs. failing own (take k pages) ++ xs) one)

  -- the end of what remains of the subtree of a page that remains
  pub end_remaining : (row : Page) (a m : ℕ) → IsRange pages row a m → own row ≡ false → 0 < m →
      end_of row.path (failing own pages) ≡ length (failing own (take (a + m) pages))
  end_remaining row a m range out some =
      let by_path : Page → Bool = λ other. begins row.path other.path in
      let parent = passes_range pages row a m range in
      let inner = between (suc a) (a + m) pages in
      let kept : failing own (row ∷ inner) ≡ row ∷ failing own inner = rw out refl in
      let window = between_next a (a + m) pages row range.page (omega arith) in
      let front = failing own (take a pages) in
      let behind = failing own (drop (a + m) pages) in
      let parts : failing own pages ≡ front ++ (row ∷ (failing own inner ++ behind)) =
      ap (failing own) (two_splits a (a + m) pages (omega arith))
      ∙ (filter-append (λ x. not (own x)) (take a pages)
      (between a (a + m) pages ++ drop (a + m) pages)
      ∙ ap (λ xs. front ++ xs)
      (filter-append (λ x. not (own x)) (between a (a + m) pages) (drop (a + m) pages)
      ∙ ap (λ xs. xs ++ behind) (ap (failing own) window ∙ kept))) in
      let first : failing own (take (a + m) pages) ≡ front ++ (row ∷ failing own inner) =
      ap (failing own) (take_split a (a + m) pages (omega arith))
      ∙ (filter-append (λ x. not (own x)) (take a pages) (between a (a + m) pages)
      ∙ ap (λ xs. front ++ xs) (ap (failing own) window ∙ kept)) in
      let long = length-append front (row ∷ failing own inner) in
      let end = end_of-parts row.path front row (failing own inner) behind
      (All-kept (λ (r : Page). begins row.path r.path ≡ false) _ _ parent.front) (
        begins-self row.path,
        All-kept (λ (r : Page). begins row.path r.path ≡ true) _ inner
            (All-narrower (λ (r : Page). begins row.path r.path ≡ true) a (suc a) (a + m) (a + m) pages
            (omega arith) (omega arith) (omega arith) parent.inside),
      )
      (All-kept (λ (r : Page). begins row.path r.path ≡ false) _ _ parent.behind) in
      ap (end_of row.path) parts ∙ (end ∙ sym (ap length first ∙ long))
