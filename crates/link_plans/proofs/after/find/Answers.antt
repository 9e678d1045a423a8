-- What stands at the place is found, if it has the id.
use Rattle.std.proofs.Common.{◌∙◌, sym}
use Rattle.link_plans.proofs.FindLemmas.{found_own, found_other}
use Rattle.link_plans.proofs.after.find.Goals as goal

pub returns-then-eq : goal.returns-then-eq
returns-then-eq c =
    found_own c.args.id c.in-Some.revision.now _ _ c.in-Some.ensures c.place_of.ensures
    (sym c.eq.ensures ∙ c.if-eq.true)

pub returns-else-eq : goal.returns-else-eq
returns-else-eq c =
    found_other c.args.id c.in-Some.revision.now _ _ c.in-Some.ensures c.place_of.ensures
    (sym c.eq.ensures ∙ c.if-eq.false)
