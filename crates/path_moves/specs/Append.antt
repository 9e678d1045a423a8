-- Where a page goes that is appended below another: behind the last kid, as `add_child` of
-- django-treebeard 4.7, MP_Node.
use Rattle.std.specs.Prelude.{ℕ, List, [], ◌∷◌, ◌++◌, length, nat_lt, if◌then◌else◌}
use Rattle.std.specs.Prelude.{Result, Ok, Err}
use Rattle.page_tree.specs.Tree.{Forest, End, kids_of, step_needed}
use Rattle.page_tree.specs.Walk.{path_of}
use Rattle.step_path.specs.declared.path.TheConstants.{MAX_DEPTH}
use Rattle.step_path.specs.declared.step.TheConstants.{LAST_STEP}
use Rattle.path_moves.specs.declared.fault.PathFault.{PathFault}
use Rattle.path_moves.specs.declared.fault.PathFault.TheVariants.{StepsFull, TooDeep}

-- The path of a page at this step below the page with this path: there is none where the step is
-- above the greatest one, and none where the page above has the most steps that a path has.
abbrev pub path_below : List ℕ → ℕ → Result (List ℕ) PathFault
path_below path step =
    if nat_lt LAST_STEP step
    then Err StepsFull
    else (if nat_lt (length path) MAX_DEPTH then Ok (path ++ step ∷ []) else Err TooDeep)

-- the path of a page that is appended below the page with the id
abbrev pub appended_path : {Body : Type 0} → ℕ → Forest Body → Result (List ℕ) PathFault
appended_path parent tree = path_below (path_of parent tree) (step_needed End (kids_of parent tree))
