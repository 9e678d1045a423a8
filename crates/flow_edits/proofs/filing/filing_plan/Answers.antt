-- The page is there.
use Rattle.std.proofs.Common.{sym, ap, ◌∙◌}
use Rattle.site_types.specs.declared.body.Body.{Body}
use Rattle.flow_edits.specs.Plans.{filing_plan}
use Rattle.moderating.proofs.Facts.{not_missing}
use Rattle.flow_edits.proofs.filing.filing_plan.Goals as goal
use Rattle.site_model.proofs.RegularLemmas.{same_body}

pub unreachable-requires : goal.unreachable-requires
unreachable-requires c =
    not_missing c.args.filed.page c.requires.0 c.requires.2
    (sym c.in_default.is ∙ c.body_of.ensures c.requires.0 c.requires.1)

pub returns-in-Ok : goal.returns-in-Ok
returns-in-Ok c = λ tree body pages found.
    c.in-Ok.ensures
    ∙ ap (λ (one : Body). filing_plan c.args.filed one c.args.part.now.next_page)
    (same_body c.in-Some.body body (sym c.in-Some.is ∙ (c.body_of.ensures tree pages ∙ found)))
