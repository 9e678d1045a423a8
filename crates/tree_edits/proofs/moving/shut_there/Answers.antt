-- The new parent is the tree's.
use Rattle.std.proofs.Common.{ℕ, ◌∙◌, subst}
use Rattle.std.specs.Prelude.{IfOk}
use Rattle.path_moves.proofs.Planned.{parent_told}
use Rattle.new_pages.proofs.LookUpLemmas.{row_there}
use Rattle.new_pages.specs.Moving.{AreLostBelow}
use Rattle.tree_edits.proofs.moving.shut_there.Goals as goal

pub new_parent-parent-requires-clause-target_there :
    goal.new_parent-parent-requires-clause-target_there
new_parent-parent-requires-clause-target_there c =
    row_there c.args.target c.requires.0.tree c.args.part.now.rows.pages c.requires.1.stands.pages
    ∙ c.requires.2.1

pub new_parent-parent-requires-clause-below_root :
    goal.new_parent-parent-requires-clause-below_root
new_parent-parent-requires-clause-below_root c = c.requires.2.3

pub returns : goal.returns
returns c = λ world ready.
    subst (λ (parent : ℕ). IfOk c.lost_by_move.result (AreLostBelow world c.args.page parent))
    (parent_told c.args.part.now.rows.pages world.tree c.args.target c.new_parent-parent.result
    c.args.position ready.stands.pages c.new_parent-parent.ensures.value)
    (c.lost_by_move.ensures world ready)
