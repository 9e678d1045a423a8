-- Each command is prepared with its group.
use Rattle.std.proofs.Common.{sym, ◌∙◌}
use Rattle.site_core.proofs.GroupLemmas.{tree_grouped, flow_grouped, save_grouped}
use Rattle.site_core.proofs.part.find_plan.Goals as goal

pub prepare_tree-requires-clause-tree : goal.prepare_tree-requires-clause-tree
prepare_tree-requires-clause-tree c =
    tree_grouped c.args.command.now (sym c.group_of.ensures ∙ c.in-Tree.is)

pub prepare_flow-requires-clause-flow : goal.prepare_flow-requires-clause-flow
prepare_flow-requires-clause-flow c =
    flow_grouped c.args.command.now (sym c.group_of.ensures ∙ c.in-Flow.is)

pub prepare_tree-requires-clause-ready : goal.prepare_tree-requires-clause-ready
prepare_tree-requires-clause-ready c =
    (c.requires.ready.0, c.requires.ready.1, c.requires.ready.2)

pub prepare_flow-requires-clause-given : goal.prepare_flow-requires-clause-given
prepare_flow-requires-clause-given c = (
  c.requires.ready.0,
  record {
    ready = c.requires.ready.1;
    fits = c.requires.ready.2;
    at_desk = c.requires.ready.3;
  },
)

pub unreachable-requires : goal.unreachable-requires
unreachable-requires c =
    save_grouped c.args.command.now (sym c.group_of.ensures ∙ c.in-Save.is) c.requires.other

pub returns-in-Tree-clause-plan : goal.returns-in-Tree-clause-plan
returns-in-Tree-clause-plan c = λ world ready fits own.
    c.prepare_tree.ensures.plan world _ ready fits

pub returns-in-Flow-clause-plan : goal.returns-in-Flow-clause-plan
returns-in-Flow-clause-plan c = λ world ready fits own.
    c.prepare_flow.ensures.plan world (record { ready = ready; fits = fits; at_desk = own })
