-- Where no list is found the one with the number is empty.
use Rattle.std.proofs.Common.{◌≡◌, arith}
use Rattle.std.proofs.lemmas.Bool.Decides.{nat_tests}
use Rattle.workflow.proofs.FlowLemmas.{not_found}
use Rattle.workflow.proofs.StageLemmas.{none_first}
use Rattle.workflow.proofs.stage.list_numbered.Goals as goal

pub returns-then-number-eq0 : goal.returns-then-number-eq0
returns-then-number-eq0 c =
    let is : c.args.number ≡ 0 = grind (arith, nat_tests) in
    none_first c.args.lists.now c.args.number is

pub returns-in-None : goal.returns-in-None
returns-in-None c = not_found c.args.lists.now c.args.number c.in-None.ensures
