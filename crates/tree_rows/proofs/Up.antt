-- From a page to the one above it, in the rows of a site's tree.
use Rattle.std.proofs.Common.{◌≡◌, ℕ, ◌<◌, true, List, [], ◌∷◌, ◌++◌, Option, Some, None, IsSome, nat_eq, length, refl, sym, ap, ◌∙◌, subst, arith, rules}
use Rattle.std.specs.Prelude.{option_and_then}
use Rattle.std.specs.Option.{option_map_or}
use Rattle.std.proofs.lemmas.Bool.Decides.{nat_tests}
use Rattle.page_tree.specs.Tree.{Forest, has_page}
use Rattle.page_tree.specs.Rows.{rows_of, row_with}
use Rattle.page_tree.proofs.RowLemmas.{AllIds-weaker}
use Rattle.site_types.specs.declared.body.Body.{Body}
use Rattle.page_store.specs.Pages.{Page, ArePages, StartsAtRoot}
use Rattle.page_store.proofs.SeenLemmas.{All-find}
use Rattle.page_store.proofs.ParentLemmas.{find_passes, has_parent}
use Rattle.tree_rows.proofs.SiteTree.{apart_tree}
use Rattle.tree_rows.proofs.Above.{read_to, read_above, read_walked, all_there}

-- the depth of the page with the id, and 0 where there is none
abbrev pub depth_at : ℕ → List Page → ℕ
depth_at id pages = option_map_or (λ row. length row.path) (row_with id pages) 0

-- the page above a page is there, and less deep
pub record IsUp (pages : List Page) (id parent : ℕ) : Type 0 where
  pub there : IsSome (row_with parent pages)
  pub less_deep : depth_at parent pages < depth_at id pages

-- the root has no parent
root_alone : (rows : List Page) (row : Page) → StartsAtRoot rows → row_with 1 rows ≡ Some row →
    row.parent ≡ None
root_alone [] row start found = absurd start
root_alone (root ∷ rows) row start found =
    let first = start.0.id_is in
    let none = start.0.no_parent in
    let same : nat_eq root.id 1 ≡ true = grind (arith, nat_tests) in
    let is : Some root ≡ Some row = rw same at found in
    let one : root ≡ row = cc in
    subst (λ (r : Page). r.parent ≡ None) one none

module _ (pages : List Page) (are : ArePages pages) (id : ℕ) where
  -- the parent of a page is such a page
  pub parent_is_up : (p : ℕ) →
      Some p ≡ option_and_then (λ (row : Page). row.parent) (row_with id pages) → IsUp pages id p
  parent_is_up p is = by (row_with id pages) refl is
    where
      by : (o : Option Page) → row_with id pages ≡ o →
          Some p ≡ option_and_then (λ (row : Page). row.parent) o → IsUp pages id p
      by None e h = absurd cc
      by (Some row) e h =
          let below_root : id ≡ 1 → ⊥ = λ root.
          let none = root_alone pages row are.root (subst (λ i. row_with i pages ≡ Some row) root e)
          in cc in
          let has = has_parent pages id row are e below_root in
          let both : Some p ≡ Some has.parent = h ∙ has.parent_is in
          let same : has.parent ≡ p = cc in
          let found : row_with p pages ≡ Some has.above =
          subst (λ i. row_with i pages ≡ Some has.above) same has.found in
          let own : depth_at id pages ≡ length row.path =
          ap (λ (o : Option Page). option_map_or (λ (r : Page). length r.path) o 0) e in
          let above : depth_at p pages ≡ length has.above.path =
          ap (λ (o : Option Page). option_map_or (λ (r : Page). length r.path) o 0) found in
          let shorter = has.shorter in
          record {
            there = subst IsSome (sym found) (search rules);
            less_deep = omega arith;
          }

  module _ {A : Type 0} (read : ℕ → Body → A) (tree : Forest Body) (is_tree : pages ≡ rows_of tree)
    where
      -- what is read on the walk to a page is what is read on that to its parent, and on the page
      pub walk_up : (row : Page) → row_with id pages ≡ Some row →
          read_to read id tree ≡ read_above read row.parent tree ++ read id row.body ∷ []
      walk_up row e =
          let apart = apart_tree tree (subst ArePages is_tree are) in
          let walked = read_walked read None [] [] tree apart
          (AllIds-weaker (λ j. has_page j tree ≡ true) (λ j. None ≡ Some j → ⊥) tree
          (λ j there e. cc) (all_there tree)) in
          let own : nat_eq row.id id ≡ true =
          find_passes (λ (r : Page). nat_eq r.id id) pages row e in
          let same : row.id ≡ id = grind (arith, nat_tests) in
          let one = All-find
          (λ (r : Page).
          read_to read r.id tree ≡ read_above read r.parent tree ++ read r.id r.body ∷ [])
          (λ (r : Page). nat_eq r.id id) (rows_of tree) row walked
          (subst (λ rows. row_with id rows ≡ Some row) is_tree e) in
          subst
          (λ i. read_to read i tree ≡ read_above read row.parent tree ++ read i row.body ∷ []) same
          one
