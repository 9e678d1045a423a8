-- What the call owes that relabels rows for a move, and what it leaves.
use Rattle.std.proofs.Common.{◌≡◌, ℕ, ◌+◌, ◌≤◌, Option, Some, None, IsSome, IfSome, List, length, refl, sym, ap, subst, ◌∙◌, rules}
use Rattle.page_tree.specs.Rows.{row_with}
use Rattle.tree_model.specs.Changes.{path_in}
use Rattle.page_store.specs.PageRows.{IsRange}
use Rattle.page_store.specs.Pages.{Page, ArePages}
use Rattle.page_store.specs.Relabelling.{relabelled_rows, first_moved, KeepParents}
use Rattle.page_store.specs.declared.plan.MovePlan.{MovePlan}
use Rattle.flat_model.specs.Fits.{MoveFits}
use Rattle.flat_model.specs.Made.{with_move, outside}
use Rattle.flat_model.proofs.MoveRows.{found_id, with_move_is, first_is, remaining}

-- What is known of the call: its places are within the rows, and it leaves those of the move.
pub record IsCall (plan : MovePlan) (urls : List (ℕ × List ℕ)) (pages : List Page) (from n : ℕ) :
    Type 0 where
  pub from_within : from + n ≤ length pages
  pub to_within : plan.place + n ≤ length pages
  pub result : relabelled_rows from n plan.place plan.rows urls pages ≡ with_move plan urls pages
  pub are_pages : ArePages (relabelled_rows from n plan.place plan.rows urls pages)
  pub parents : KeepParents (first_moved from n pages) pages
      (relabelled_rows from n plan.place plan.rows urls pages)

-- the call for a move that the rows can take, by the place and the size of its subtree
pub call_is : (plan : MovePlan) (urls : List (ℕ × List ℕ)) (pages : List Page) (from n : ℕ) →
    MoveFits plan urls pages →
    IfSome (row_with plan.page pages) (λ row. IsRange pages row from n) →
    IsCall plan urls pages from n
call_is plan urls pages from n fits range = by (row_with plan.page pages) refl fits.there range
  where
    by : (o : Option Page) → row_with plan.page pages ≡ o → IsSome o →
        IfSome o (λ row. IsRange pages row from n) → IsCall plan urls pages from n
    by None found there range = absurd (search (rules, there))
    by (Some row) found there range =
        let result = sym (with_move_is plan urls pages row from n found range) in
        let path : path_in plan.page pages ≡ row.path = rw found refl in
        record {
          from_within = range.within;
          to_within = remaining pages row from n plan.place range
              (subst (λ p. plan.place ≤ length (outside p pages)) path fits.within);
          result = result;
          are_pages = subst ArePages (sym result) fits.are_pages;
          parents = subst (KeepParents (first_moved from n pages) pages) (sym result)
              (subst (λ top. KeepParents top pages (with_move plan urls pages))
              (sym (first_is pages row from n range
              ∙ ap Some (found_id plan.page pages row found))) fits.parents);
        }
