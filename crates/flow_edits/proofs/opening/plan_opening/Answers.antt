-- A desk is opened where no rule refuses it, with room for one.
use Rattle.std.proofs.Common.{◌≡◌, Some, max, sym, ap, subst}
use Rattle.site_model.specs.Bodies.{latest_content}
use Rattle.site_types.specs.declared.command.Command.TheVariants as commands
use Rattle.site_part.specs.Plans.{HasPlan}
use Rattle.site_part.specs.Standing.{IsSame}
use Rattle.site_part.specs.declared.part.TreePart.{TreePart}
use Rattle.site_part.specs.declared.plan.Plan.{Plan}
use Rattle.site_part.proofs.StandingLemmas.{same_ready, same_pairs}
use Rattle.flow_edits.proofs.OpenPlans.{open_refused, open_planned}
use Rattle.flow_edits.proofs.opening.plan_opening.Goals as goal

pub returns-in-Err-clause-plan : goal.returns-in-Err-clause-plan
returns-in-Err-clause-plan c = λ world desk asked.
    open_refused c.args.part.now c.args.part.now world desk c.args.now c.args.caller c.args.page asked
    (λ text. latest_content world c.args.page ≡ Some text) c.in-Err.fault
    (c.in-Err.ensures world desk asked)

pub returns-clause-plan : goal.returns-clause-plan
returns-clause-plan c = λ world desk asked.
    let kept = c.args.part.now in
    let room : TreePart = record kept { desk_pairs = c.reserve.new.self } in
    let same : IsSame kept room = same_pairs kept c.reserve.new.self c.reserve.ensures.pairs in
    let told = c.in-Ok.ensures world desk asked in
    subst (λ (plan : Plan). HasPlan room world desk c.args.now c.args.caller
    (commands.OpenDesk c.args.page) plan) (sym c.opening_of.ensures)
    (open_planned kept room world desk c.args.now c.args.caller c.args.page asked c.in-Ok.text told.1
    told.0 (same_ready kept room world same asked.given.ready) c.in-Ok-reserve.ensures.ok
    (max kept.time c.args.now) (ap (λ t. max t c.args.now) asked.given.ready.stands.time))
