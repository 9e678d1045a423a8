-- The rows that a move leaves, by the places that its subtree had.
use Rattle.std.proofs.Common.{◌≡◌, ℕ, suc, ◌+◌, ◌≤◌, Bool, true, false, nat_eq, List, ◌++◌, Some, length, take, drop, refl, ap, sym, ◌∙◌, subst, arith, length-drop, length-append}
use Prim.Native.Nat.{zero}
use Rattle.std.proofs.lemmas.List.{drop-drop, length-take-le}
use Rattle.std.specs.List.{AllByRecursion}
use Rattle.page_tree.specs.Rows.{row_with, comes_before}
use Rattle.step_path.specs.Path.{BeginsWith}
use Rattle.tree_model.specs.Changes.{path_in}
use Rattle.page_store.specs.PageRows.{IsRange}
use Rattle.page_store.specs.Pages.{Page, ArePages}
use Rattle.page_store.specs.Relabelling.{relabelled_rows, first_moved}
use Rattle.page_store.specs.Search.{begins, leading}
use Rattle.page_store.specs.declared.plan.MovePlan.{MovePlan}
use Rattle.page_store.proofs.AllLemmas.{All-weaker}
use Rattle.page_store.proofs.CutLemmas.{cut_window}
use Rattle.page_store.proofs.Leading.{leading-le-length}
use Rattle.page_store.proofs.PathOrder.{begins-self, begins-BeginsWith, BeginsWith-begins}
use Rattle.page_store.proofs.RangeLemmas.{drop_at_place, own_place, range_at, within_from_get}
use Rattle.flat_model.specs.Made.{with_move, outside, subtree}
pub use Rattle.page_tree.proofs.RowLemmas.{found_id}

-- a row that does not begin with a path fails the test
fails : (path own : List ℕ) → (BeginsWith path own → ⊥) → begins path own ≡ false
fails path own not = by (begins path own) refl
  where
    by : (t : Bool) → begins path own ≡ t → begins path own ≡ false
    by true e = absurd (not (BeginsWith-begins path own e))
    by false e = e

-- the rows outside a subtree and those inside, by its place and its size
parts : (pages : List Page) (row : Page) (from n : ℕ) → IsRange pages row from n →
    (outside row.path pages ≡ take from pages ++ drop (from + n) pages)
    × (subtree row.path pages ≡ take n (drop from pages))
parts pages row from n range =
    let window = cut_window (λ (other : Page). begins row.path other.path) from n pages
    (All-weaker (λ (other : Page). BeginsWith row.path other.path → ⊥)
    (λ (other : Page). begins row.path other.path ≡ false)
    (λ other out. fails row.path other.path out) _ range.before)
    (All-weaker (λ (other : Page). BeginsWith row.path other.path)
    (λ (other : Page). begins row.path other.path ≡ true)
    (λ other on. begins-BeginsWith row.path other.path on) _ range.inside)
    (subst (AllByRecursion (λ (other : Page). begins row.path other.path ≡ false))
    (sym (drop-drop n from pages))
    (All-weaker (λ (other : Page). BeginsWith row.path other.path → ⊥)
    (λ (other : Page). begins row.path other.path ≡ false)
    (λ other out. fails row.path other.path out) _ range.after)) in (
      window.0 ∙ ap (λ rest. take from pages ++ rest) (drop-drop n from pages),
      window.1,
    )

-- the path of a page that is found
path_found : (id : ℕ) (pages : List Page) (row : Page) → row_with id pages ≡ Some row →
    path_in id pages ≡ row.path
path_found id pages row found = rw found refl

-- a move is a relabelling from the place of the subtree
pub with_move_is : (plan : MovePlan) (urls : List (ℕ × List ℕ)) (pages : List Page) (row : Page)
    (from n : ℕ) → row_with plan.page pages ≡ Some row → IsRange pages row from n →
    with_move plan urls pages ≡ relabelled_rows from n plan.place plan.rows urls pages
with_move_is plan urls pages row from n found range =
    let window = parts pages row from n range in
    rw (path_found plan.page pages row found, window.0, window.1) refl

-- the first row of a subtree is its page's
pub first_is : (pages : List Page) (row : Page) (from n : ℕ) → IsRange pages row from n →
    first_moved from n pages ≡ Some row.id
first_is pages row from zero range =
    let none : from + 0 ≡ from = omega arith in
    let after = subst (λ m. AllByRecursion (λ (other : Page). BeginsWith row.path other.path → ⊥)
    (drop m pages)) none range.after in
    let here = subst (λ rows. AllByRecursion (λ (other : Page). BeginsWith row.path other.path → ⊥)
    rows) (drop_at_place from pages row range.page) after in
    absurd (here.0 (BeginsWith-begins row.path row.path (begins-self row.path)))
first_is pages row from (suc n) range = rw (drop_at_place from pages row range.page) refl

-- the rows that remain are all but those of the subtree
pub remaining : (pages : List Page) (row : Page) (from n to : ℕ) → IsRange pages row from n →
    to ≤ length (outside row.path pages) → to + n ≤ length pages
remaining pages row from n to range within =
    let size = ap length (parts pages row from n range).0 in
    let sum = length-append (take from pages) (drop (from + n) pages) in
    let fits = range.within in
    let front = length-take-le from pages (omega (arith, fits)) in
    let behind = length-drop (from + n) pages in
    omega (arith, size, sum, front, behind, fits, within)

-- and the other way round
pub remaining_from : (pages : List Page) (row : Page) (from n to : ℕ) → IsRange pages row from n →
    to + n ≤ length pages → to ≤ length (outside row.path pages)
remaining_from pages row from n to range within =
    let size = ap length (parts pages row from n range).0 in
    let sum = length-append (take from pages) (drop (from + n) pages) in
    let fits = range.within in
    let front = length-take-le from pages (omega (arith, fits)) in
    let behind = length-drop (from + n) pages in
    omega (arith, size, sum, front, behind, fits, within)

-- The place and the size of a page's subtree.
pub record HasRange (pages : List Page) (row : Page) : Type 0 where
  pub from : ℕ
  pub n : ℕ
  pub range : IsRange pages row from n

-- each page that is there has a subtree
pub range_of_page : (id : ℕ) (pages : List Page) (row : Page) → ArePages pages →
    row_with id pages ≡ Some row → HasRange pages row
range_of_page id pages row are found =
    let from = leading (λ (other : Page). comes_before other.path row.path) pages in
    let at = own_place (λ (r : Page). nat_eq r.id id) pages row are.in_order found in
    let behind = drop (suc from) pages in
    let n = leading (λ (other : Page). begins row.path other.path) behind in
    let few = leading-le-length (λ (other : Page). begins row.path other.path) behind in
    let left = length-drop (suc from) pages in
    let here = within_from_get pages from row at in
    record {
      from = from;
      n = suc n;
      range = range_at pages row from n are.in_order at refl (omega (arith, few, left, here));
    }
