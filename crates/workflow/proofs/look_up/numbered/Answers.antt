-- The list with a number stands at the place before it.
use Rattle.std.proofs.Common.{◌∙◌, ◌-◌, refl}
use Rattle.workflow.proofs.FlowLemmas.{placed}
use Rattle.workflow.proofs.look_up.numbered.Goals as goal

pub returns : goal.returns
returns c =
    c.at_place.ensures
    ∙ placed c.args.lists.now c.args.number (c.args.number - 1) c.requires refl
