-- Whether the caller has a desk there; what rules refuse; and the plan of what none refuses.
use Rattle.std.proofs.Common.{◌≡◌, ap}
use Rattle.std.specs.Option.{option_copied}
use Rattle.site_model.specs.Desks as desks
use Rattle.site_types.specs.declared.revision.Revision.{Revision}
use Rattle.site_part.specs.Standing.{IsSame}
use Rattle.site_part.specs.declared.part.TreePart.{TreePart}
use Rattle.site_part.proofs.StandingLemmas.{same_ready, same_shelf}
use Rattle.flow_edits.proofs.FilePlans.{file_none, file_refused, file_prepared, filed_there}
use Rattle.flow_edits.proofs.filing.plan_filing.Goals as goal

pub returns-in_default-clause-plan : goal.returns-in_default-clause-plan
returns-in_default-clause-plan c = λ world asked.
    file_none c.args.part.now c.args.part.now world (option_copied c.args.desk) c.args.now c.args.caller
    c.args.page c.args.go_live c.args.expire asked (ap option_copied c.in_default.is)

pub returns-in-Err-clause-plan : goal.returns-in-Err-clause-plan
returns-in-Err-clause-plan c = λ world asked.
    file_refused c.args.part.now c.args.part.now world (option_copied c.args.desk) c.args.now
    c.args.caller c.args.page c.args.go_live c.args.expire asked c.in-Some.text.now
    (ap option_copied c.in-Some.is) (λ (revision : Revision). revision
    ≡ desks.filed_revision world c.args.now c.args.caller c.args.page c.in-Some.text.now
    c.args.go_live c.args.expire) c.in-Err.fault (c.in-Err.ensures world asked.given.ready)

pub filing_plan-requires : goal.filing_plan-requires
filing_plan-requires c =
    let world = c.requires.0 in
    let asked = c.requires.1 in (
      world.tree,
      asked.given.ready.stands.pages,
      filed_there c.args.part.now c.args.part.now world (option_copied c.args.desk) c.args.now
          c.args.caller c.args.page c.args.go_live c.args.expire asked c.in-Some.text.now
          (ap option_copied c.in-Some.is) c.in-Ok.filed
          (c.in-Ok.ensures world asked.given.ready).1,
    )

pub returns-clause-plan : goal.returns-clause-plan
returns-clause-plan c = λ world asked.
    let kept = c.args.part.now in
    let room : TreePart = record kept { shelf = c.reserve.new.self } in
    let same : IsSame kept room = same_shelf kept c.reserve.new.self c.reserve.ensures.revisions in
    let told = c.in-Ok.ensures world asked.given.ready in
    file_prepared kept room world (option_copied c.args.desk) c.args.now c.args.caller c.args.page
    c.args.go_live c.args.expire asked c.in-Some.text.now (ap option_copied c.in-Some.is)
    (same_ready kept room world same asked.given.ready) told.0 c.in-Ok-reserve.ensures.ok
    c.in-Ok.filed told.1 c.filing_plan.result
    (λ body found. c.filing_plan.ensures world.tree body asked.given.ready.stands.pages found)
