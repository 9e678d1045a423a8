-- The number stands at the place before.
use Rattle.std.proofs.Common.{◌-◌, refl}
use Rattle.workflow.proofs.StageLemmas.{number_placed}
use Rattle.workflow.proofs.stage.number_in.Goals as goal

pub returns : goal.returns
returns c =
    number_placed c.args.numbers.now c.args.place (c.args.place - 1) c.requires.first refl
