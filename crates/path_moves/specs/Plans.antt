-- What a move plans: why it is refused, or which pages get which paths.
use Rattle.std.specs.Prelude.{◌≡◌, ◌⊎◌, ℕ, Result, Ok, Err, if◌then◌else◌}
use Rattle.page_tree.specs.Tree.{Forest, without}
use Rattle.page_tree.specs.Rows.{rows_of}
use Rattle.site_types.specs.declared.body.Body.{Body}
use Rattle.site_types.specs.declared.position.Position.{Position}
use Rattle.tree_model.specs.Places.{parent_at, place_at, moved_to, leads_into_itself}
use Rattle.tree_model.specs.Limits.{is_full, is_too_deep}
use Rattle.tree_model.specs.Changes.{changed_paths}
use Rattle.page_store.specs.declared.plan.MovePlan.{MovePlan}
use Rattle.tree_rows.specs.Cuts.{place_of}
use Rattle.path_moves.specs.declared.fault.PathFault.{PathFault}
use Rattle.path_moves.specs.declared.fault.PathFault.TheVariants.{IntoItself, StepsFull, TooDeep, Memory}

-- the result is this, unless memory ran out
abbrev pub UnlessMemory : {X : Type 0} → Result X PathFault → Result X PathFault → Type 0
UnlessMemory planned result = (result ≡ Err Memory) ⊎ (result ≡ planned)

-- The plan of a move from this tree to the next: the page's new parent and its new place, and the
-- pages whose path changes.
abbrev pub plan_of : Forest Body → ℕ → ℕ → Position → MovePlan
plan_of tree page target position =
    let after = rows_of (moved_to tree page target position) in
    record {
      page = page;
      parent = parent_at tree target position;
      place = place_of page after;
      rows = changed_paths (rows_of tree) after;
    }

-- The plan of a move, or why there is none: the page would go below itself, a step past the last
-- one would be needed, or a page would have too many steps.
abbrev pub planned_move : Forest Body → ℕ → ℕ → Position → Result MovePlan PathFault
planned_move tree page target position =
    if leads_into_itself tree page target position
    then Err IntoItself
    else (if is_full (without page tree) (parent_at tree target position)
    (place_at (without page tree) target position)
    then Err StepsFull
    else (if is_too_deep (moved_to tree page target position)
    then Err TooDeep
    else Ok (plan_of tree page target position)))
