-- Whether a page goes with another.
use Rattle.std.proofs.Common.{◌≡◌, ℕ, Bool, true, false, ◌&&◌, ◌||◌, nat_eq, List, Option, Some, None, IsSome, is_some, refl, sym, ap, subst, ◌∙◌, arith}
use Rattle.std.specs.Option.{option_map}
use Rattle.page_tree.specs.Tree.{Forest, has_page, node_of, kids_of}
use Rattle.page_tree.specs.Rows.{rows_of, row_with}
use Rattle.site_types.specs.declared.body.Body.{Body}
use Rattle.site_types.specs.declared.position.Position.TheVariants.{LastChild}
use Rattle.site_types.specs.declared.page_row.PageRow.{PageRow}
use Rattle.page_store.specs.PageRows.{page_row}
use Rattle.page_store.specs.Pages.{Page, ArePages}
use Rattle.path_moves.proofs.ApplyAfter.{distinct_tree}
use Rattle.tree_rows.proofs.SubtreeLemmas.{found_block}
use Rattle.tree_model.specs.Places.{leads_into_itself, stays_put}
use Rattle.tree_model.proofs.CountLemmas.{count, once, none_counts, none_has, cut_counts}
use Rattle.new_pages.proofs.LookUpLemmas.{row_there}

-- a page that is there goes with another exactly where a move would lead into that
pub goes_is : (pages : List Page) (tree : Forest Body) (page other : ℕ) → ArePages pages →
    pages ≡ rows_of tree → IsSome (row_with page pages) →
    leads_into_itself tree page other LastChild ≡ has_page other (node_of page tree)
goes_is pages tree page other are is there = by (row_with page (rows_of tree)) refl
    (subst (λ rows. IsSome (row_with page rows)) is there)
  where
    swapped : (a b : Bool) → (b || (a && true)) ≡ (a || (b || false))
    swapped true true = refl
    swapped true false = refl
    swapped false true = refl
    swapped false false = refl

    by : (o : Option Page) → row_with page (rows_of tree) ≡ o → IsSome o →
        leads_into_itself tree page other LastChild ≡ has_page other (node_of page tree)
    by None e some = absurd (cc)
    by (Some row) e some =
        let b = (found_block tree page row (subst ArePages is are) e).0 in
        let turned = swapped (nat_eq page other) (has_page other (kids_of page tree)) in
        turned ∙ ap (has_page other) (sym b.node_is)

-- a move to be a kid is none beside a page
pub never_beside : (page other : ℕ) → stays_put page other LastChild ≡ false
never_beside page other = by (nat_eq page other)
  where
    by : (t : Bool) → (t && false) ≡ false
    by true = refl
    by false = refl

-- a row that is found is there
pub kept_row : (pages : List Page) (id : ℕ) (row : PageRow) →
    Some row ≡ option_map page_row (row_with id pages) → IsSome (row_with id pages)
kept_row pages id row is = by (row_with id pages) is
  where
    by : (o : Option Page) → Some row ≡ option_map page_row o → IsSome o
    by None is = absurd (cc)
    by (Some found) is = refl

-- a page without a row goes with no page
pub not_there : (pages : List Page) (tree : Forest Body) (page other : ℕ) →
    ArePages pages → pages ≡ rows_of tree → None ≡ option_map page_row (row_with other pages) →
    has_page other (node_of page tree) ≡ false
not_there pages tree page other are is none =
    let absent : has_page other tree ≡ false =
    sym (row_there other tree pages is) ∙ by (row_with other pages) none in
    none_has other (node_of page tree) (inside (none_counts other tree absent))
  where
    by : (o : Option Page) → None ≡ option_map page_row o → is_some o ≡ false
    by None none = refl
    by (Some row) none = absurd (cc)

    inside : count other tree ≡ 0 → count other (node_of page tree) ≡ 0
    inside zero_times =
        let distinct = distinct_tree tree (subst ArePages is are) in
        let sum = cut_counts page other tree (once tree distinct page) in
        omega (arith, zero_times, sum)
