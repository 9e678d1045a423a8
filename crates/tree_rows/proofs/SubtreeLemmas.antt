-- The rows that begin with a page's path: its own, those of all below it, and the last of them.
use Rattle.std.proofs.Common.{◌≡◌, ℕ, suc, ◌+◌, ◌-◌, ◌<◌, Bool, true, false, List, [], ◌∷◌, ◌++◌, Option, Some, None, is_some, length, take, drop, slice_get, refl, ap, sym, ◌∙◌, subst, arith, append_assoc, inl, inr}
use Prim.Native.Nat.{zero}
use Rattle.std.specs.List.{AllByRecursion}
use Rattle.std.specs.Option.{option_map}
use Rattle.std.proofs.lemmas.Option.{slice_get_past}
use Rattle.page_tree.specs.Tree.{Forest, bare, grown, has_page, kids_of, last_step}
use Rattle.page_tree.specs.Rows.{Row, rows_below, rows_of, row_with, child_url}
use Rattle.page_tree.proofs.RowLemmas.{has_page-rows}
use Rattle.page_tree.proofs.WalkLemmas.{last_row}
use Rattle.step_path.specs.Path.{BeginsWith}
use Rattle.site_types.specs.declared.body.Body.{Body}
use Rattle.page_store.specs.PageRows.{IsRange}
use Rattle.page_store.specs.Pages.{Page, ArePages}
use Rattle.page_store.specs.Search.{begins}
use Rattle.page_store.proofs.PathOrder.{begins-self, begins-BeginsWith, BeginsWith-begins}
use Rattle.page_store.proofs.AllLemmas.{All-append, All-weaker}
use Rattle.page_store.proofs.RangeLemmas.{All-at, drop_at_place}
use Rattle.page_store.proofs.SeenLemmas.{found_by_own_id}
use Rattle.tree_rows.specs.Subtree.{last_of, subtree_rows, step_after}
use Rattle.tree_rows.proofs.Block.{Block, block_of}
use Rattle.tree_rows.proofs.Lists.{all_parts, filter_middle, filter_window, slice_get-window, length-window, slice_get-append, last_of-push}
use Rattle.tree_rows.proofs.SiteTree.{rising_tree, apart_tree}

-- a test that would lead to nothing fails
pub fails_from : (t : Bool) → (t ≡ true → ⊥) → t ≡ false
fails_from true h = absurd (h refl)
fails_from false h = refl

module _ {Body : Type 0} where
  -- each row below a page begins with its path
  pub rows_begin : (parent : Option ℕ) (path url : List ℕ) (f : Forest Body) →
      AllByRecursion (λ (row : Row Body). BeginsWith path row.path) (rows_below parent path url f)
  rows_begin parent path url bare = tt
  rows_begin parent path url (grown i s slug body kids rest) = (
    (s ∷ [], refl),
    All-append _ _ _
        (All-weaker _ _ (λ (row : Row Body) on. (
          s ∷ on.0,
          sym (append_assoc path (s ∷ []) on.0)
              ∙ on.1,
        )) _
        (rows_begin (Some i) (path ++ s ∷ []) (child_url url slug) kids))
        (rows_begin parent path url rest),
  )

  -- the rows of a page's block are those that begin with its path
  pub block_rows : (id before : ℕ) (parent : Option ℕ) (path url : List ℕ) (f : Forest Body)
      (b : Block id before parent path url f) →
      subtree_rows b.top.path (rows_below parent path url f)
      ≡ b.top ∷ rows_below (Some id) b.top.path b.top.url (kids_of id f)
  block_rows id before parent path url f b =
      let inside : AllByRecursion (λ (row : Row Body). begins b.top.path row.path ≡ true)
      (b.top ∷ rows_below (Some id) b.top.path b.top.url (kids_of id f)) = (
        begins-self b.top.path,
        All-weaker _ _ (λ (row : Row Body) on. begins-BeginsWith b.top.path row.path on) _
            (rows_begin (Some id) b.top.path b.top.url (kids_of id f)),
      ) in
      ap (subtree_rows b.top.path) b.rows_are
      ∙ filter_middle (λ (row : Row Body). begins b.top.path row.path) b.front
      (b.top ∷ rows_below (Some id) b.top.path b.top.url (kids_of id f)) b.behind b.front_out
      inside b.behind_out

-- the rows of a range are those that begin with its page's path
pub range_rows : (pages : List Page) (row : Page) (place n : ℕ) → IsRange pages row place n →
    subtree_rows row.path pages ≡ take n (drop place pages)
range_rows pages row place n range =
    filter_window (λ (other : Page). begins row.path other.path) pages place n
    (All-weaker _ _ (λ (other : Page) out. fails_from _
    (λ e. out (BeginsWith-begins row.path other.path e))) _ range.before)
    (All-weaker _ _ (λ (other : Page) on. begins-BeginsWith row.path other.path on) _ range.inside)
    (All-weaker _ _ (λ (other : Page) out. fails_from _
    (λ e. out (BeginsWith-begins row.path other.path e))) _ range.after)

-- a range has a row
pub range_some : (pages : List Page) (row : Page) (place n : ℕ) → IsRange pages row place n → 0 < n
range_some pages row place zero range =
    let none : place + 0 ≡ place = omega arith in
    let after = subst (λ m. AllByRecursion (λ (other : Page). BeginsWith row.path other.path →
    ⊥) (drop m pages)) none range.after in
    let here = subst (λ rows. AllByRecursion (λ (other : Page). BeginsWith row.path other.path →
    ⊥) rows)
    (drop_at_place place pages row range.page) after in
    absurd (here.0 (BeginsWith-begins row.path row.path (begins-self row.path)))
range_some pages row place (suc n) range = omega arith

-- the last row of a range
pub range_last : (pages : List Page) (row : Page) (place n : ℕ) → IsRange pages row place n →
    last_of (subtree_rows row.path pages) ≡ slice_get pages (place + n - 1)
range_last pages row place n range =
    let rows = range_rows pages row place n range in
    let some = range_some pages row place n range in
    let long = length-window pages place n range.within in
    let last : n - 1 < n = omega arith in
    let place_is : place + (n - 1) ≡ place + n - 1 = omega arith in
    ap last_of rows ∙ (ap (λ m. slice_get (take n (drop place pages)) (m - 1)) long
    ∙ (slice_get-window pages place n (n - 1) last ∙ ap (slice_get pages) place_is))

-- the page at a place is found by its id
pub found_at_place : (pages : List Page) (place : ℕ) (row : Page) → ArePages pages →
    slice_get pages place ≡ Some row → row_with row.id pages ≡ Some row
found_at_place pages place row are at =
    All-at (λ (other : Page). row_with other.id pages ≡ Some other) place pages row
    (found_by_own_id pages are.own_ids) at

-- the path of the last page of a range, found by its id
pub last_path_is : (pages : List Page) (row : Page) (place n id : ℕ) → ArePages pages →
    IsRange pages row place n →
    option_map (λ (other : Page). other.id) (slice_get pages (place + n - 1)) ≡ Some id →
    option_map (λ (other : Page). other.path) (row_with id pages)
    ≡ option_map (λ (other : Page). other.path) (last_of (subtree_rows row.path pages))
last_path_is pages row place n id are range found =
    let last = range_last pages row place n range in
    by (slice_get pages (place + n - 1)) refl found
    ∙ ap (option_map (λ (other : Page). other.path)) (sym last)
  where
    by : (o : Option Page) → slice_get pages (place + n - 1) ≡ o →
        option_map (λ (other : Page). other.id) o ≡ Some id →
        option_map (λ (other : Page). other.path) (row_with id pages)
        ≡ option_map (λ (other : Page). other.path) (slice_get pages (place + n - 1))
    by None at e = absurd cc
    by (Some other) at e =
        let same : other.id ≡ id = cc in
        let whole = found_at_place pages (place + n - 1) other are at in
        rw (← same, whole, at) refl

-- The block of a page that has a row.
pub found_block : (tree : Forest Body) (id : ℕ) (row : Page) → ArePages (rows_of tree) →
    row_with id (rows_of tree) ≡ Some row →
    (b : Block id 0 None [] [] tree) × (row ≡ b.top)
found_block tree id row are found =
    let there : has_page id tree ≡ true = has_page-rows id None [] [] tree ∙ ap is_some found in
    let b = block_of id 0 None [] [] tree (rising_tree tree are) (apart_tree tree are) there in
    let all = subst (λ rows. AllByRecursion (λ (other : Page). row_with other.id (rows_of tree)
    ≡ Some other) rows)
    b.rows_are (found_by_own_id (rows_of tree) are.own_ids) in
    let parts = all_parts (λ (other : Page). row_with other.id (rows_of tree) ≡ Some other) b.front
    (b.top ∷ (rows_below (Some id) b.top.path b.top.url (kids_of id tree) ++ b.behind)) all in
    let own = parts.1.0 in
    let one : row_with id (rows_of tree)
    ≡ Some b.top = ap (λ n. row_with n (rows_of tree)) (sym b.id_is) ∙ own in
    (b, (let both : Some row ≡ Some b.top = sym found ∙ one in cc))

-- the step behind the last kid, read off the last row of the subtree
pub step_after-last : {B : Type 0} (id : ℕ) (top last : Row B) (kids : Forest B) →
    last_of (top ∷ rows_below (Some id) top.path top.url kids) ≡ Some last →
    step_after top.path last.path ≡ last_step 0 kids + 1
step_after-last {B = B} id top last kids is =
    elim (last_row (Some id) top.path top.url 0 kids) [
      | inl none ↦ (let only = rw none.0 at is in
          let same : top ≡ last = cc in
          let past = slice_get_past top.path (length top.path) (omega arith) in
          rw (← same, past, none.1) refl)
      | inr found ↦ (let one = last_of-push (top ∷ found.front) found.row in
          let same : found.row ≡ last =
          (let both : Some found.row ≡ Some last = sym one
          ∙ (ap (λ rows. last_of (top ∷ rows)) (sym found.is) ∙ is) in cc) in
          let path_is : last.path ≡ top.path ++ last_step 0 kids ∷ found.more =
          ap (λ (r : Row B). r.path) (sym same)
          ∙ (found.path_is ∙ append_assoc top.path (last_step 0 kids ∷ []) found.more) in
          rw (path_is, slice_get-append top.path found.more (last_step 0 kids)) refl)
    ]
