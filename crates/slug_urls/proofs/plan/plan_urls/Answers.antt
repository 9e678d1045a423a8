-- The plan is refused where a kid is in the way or a URL too long, and else it is the list.
use Rattle.std.proofs.Common.{Some, ap, sym, ◌∙◌}
use Rattle.slug_urls.proofs.PlanLemmas.{taken_planned, list_planned, long_planned}
use Rattle.slug_urls.proofs.plan.plan_urls.Goals as goal

pub returns-in-Some : goal.returns-in-Some
returns-in-Some c tree is =
    taken_planned c.args.rows.now.pages tree c.args.page c.args.parent c.args.slug.now
    c.len-len.ensures.pages is c.requires.parent_there c.requires.outside c.in-Some.other
    c.in-Some.ensures

pub returns-in-Ok-Some : goal.returns-in-Ok-Some
returns-in-Ok-Some c tree is =
    list_planned c.args.rows.now.pages tree c.args.page c.args.parent c.args.slug.now
    c.len-len.ensures.pages is c.requires.parent_there c.requires.outside c.as_slice.result.now
    c.as_slice-2.result.now (ap Some c.as_slice.ensures
    ∙ c.in-Some-url.ensures) c.as_slice-2.ensures.value c.in_default.ensures c.in-Ok-Some.urls
    (sym c.in-Ok-Some.field-0-is ∙ c.in-Ok-Some.ensures)

pub returns-in-Ok-None : goal.returns-in-Ok-None
returns-in-Ok-None c tree is =
    long_planned c.args.rows.now.pages tree c.args.page c.args.parent c.args.slug.now
    c.len-len.ensures.pages is c.requires.parent_there c.requires.outside c.as_slice.result.now
    c.as_slice-2.result.now (ap Some c.as_slice.ensures
    ∙ c.in-Some-url.ensures) c.as_slice-2.ensures.value c.in_default.ensures (sym
    c.in-Ok-None.field-0-is ∙ c.in-Ok-None.ensures)
