-- The pages are there, and the new parent does not lie below the page.
use Rattle.path_moves.proofs.Planned.{parent_told}
use Rattle.tree_edits.proofs.MovePlans.{outside_is, rows_named, no_row_missing}
use Rattle.tree_edits.proofs.moving.urls_there.Goals as goal

pub new_parent-parent-requires-clause-target_there :
    goal.new_parent-parent-requires-clause-target_there
new_parent-parent-requires-clause-target_there c =
    (rows_named c.args.rows.now.pages c.requires.0 c.args.page c.args.target c.args.position
    c.requires.1.named).1

pub unreachable-requires : goal.unreachable-requires
unreachable-requires c =
    no_row_missing c.args.rows.now.pages c.args.page _
    (rows_named c.args.rows.now.pages c.requires.0 c.args.page c.args.target c.args.position
    c.requires.1.named).0 c.row.ensures c.in_default.is

pub plan_urls-requires-clause-outside : goal.plan_urls-requires-clause-outside
plan_urls-requires-clause-outside c =
    outside_is c.args.rows.now.pages c.requires.0 c.args.page c.args.target
    c.new_parent-parent.result c.args.position c.len-len.ensures.pages c.requires.1
    (parent_told c.args.rows.now.pages c.requires.0.tree c.args.target c.new_parent-parent.result
    c.args.position c.requires.1.named.stands c.new_parent-parent.ensures.value)
