-- What a move needs that is applied as it was planned.
use Rattle.std.specs.Prelude.{◌≡◌, ℕ, true, false, List, Ok}
use Rattle.std.specs.Option.{IfSome}
use Rattle.page_tree.specs.Tree.{Forest, has_page}
use Rattle.page_tree.specs.Rows.{rows_of, row_with, kid_named}
use Rattle.site_types.specs.declared.body.Body.{Body}
use Rattle.site_types.specs.declared.position.Position.{Position}
use Rattle.tree_model.specs.Places.{is_beside, stays_put}
use Rattle.page_store.specs.declared.plan.MovePlan.{MovePlan}
use Rattle.page_store.specs.Pages.{Page}
use Rattle.path_moves.specs.Plans.{planned_move}

-- A page can be moved: it and the target are there, the root has no page beside it, and the page
-- does not stay where it is.
pub record IsMovable (tree : Forest Body) (page target : ℕ) (position : Position) : Type 0 where
  pub page_there : has_page page tree ≡ true
  pub target_there : has_page target tree ≡ true
  pub below_root : is_beside position ≡ true → target ≡ 1 → ⊥
  pub moves : stays_put page target position ≡ false

-- The plan is that of a move in the tree of these rows.
pub record IsPlanned (pages : List Page) (plan : MovePlan) (tree : Forest Body) (target : ℕ)
    (position : Position) : Type 0 where
  pub rows_are : pages ≡ rows_of tree
  pub movable : IsMovable tree plan.page target position
  pub planned : planned_move tree plan.page target position ≡ Ok plan

-- no other kid of the page's new parent has its slug
abbrev pub IsFree : MovePlan → List Page → Type 0
IsFree plan pages =
    IfSome (row_with plan.page pages) (λ row. IfSome (kid_named plan.parent row.slug pages)
    (λ kid. kid ≡ plan.page))
