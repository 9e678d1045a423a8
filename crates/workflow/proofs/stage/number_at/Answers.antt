-- No number stands at place 0, nor past the end.
use Rattle.std.proofs.Common.{◌≡◌, ◌<◌, length, arith}
use Rattle.std.proofs.lemmas.Bool.Decides.{nat_tests}
use Rattle.workflow.proofs.StageLemmas.{none_placed_first, none_past}
use Rattle.workflow.proofs.stage.number_at.Goals as goal
use Rattle.workflow.proofs.stage.number_at.Goals.{then-place-eq0-via-then-place-eq0, then-place-eq0-via-else-place-eq0+then-place-numbers}

pub returns-then-place-eq0 : goal.returns-then-place-eq0
returns-then-place-eq0 c = elim c.then-place-eq0.branch [
  | then-place-eq0-via-then-place-eq0 w ↦
      let is : c.args.place ≡ 0 = grind (arith, nat_tests) in
      none_placed_first c.args.numbers.now c.args.place is
  | then-place-eq0-via-else-place-eq0+then-place-numbers w ↦
      let past : length c.args.numbers.now < c.args.place = grind (arith, nat_tests) in
      none_past c.args.numbers.now c.args.place past
]
