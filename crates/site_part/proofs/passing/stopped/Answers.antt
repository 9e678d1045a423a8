-- The row of the page says what stops its caller.
use Rattle.std.proofs.Common.{◌∙◌}
use Rattle.command_rows.specs.Rows.{seen_row}
use Rattle.site_part.proofs.CountedLemmas.{page_counted}
use Rattle.site_part.proofs.LiveLemmas.{body_found, body_missing}
use Rattle.site_part.proofs.PassingLemmas.{nothing_stops, stops_at, first_refuses, later_refuses, only_refuses}
use Rattle.site_part.proofs.passing.stopped.Goals as goal

pub returns-in_default-row : goal.returns-in_default-row
returns-in_default-row c world stands =
    nothing_stops world c.args.caller (seen_row c.args.row.now) c.in-Some.page c.in-Some.is
    (body_missing c.args.part.now.rows.pages world.tree stands.pages c.in-Some.page
    c.in_default-row.ensures)

pub returns-in-Some-locked : goal.returns-in-Some-locked
returns-in-Some-locked c world stands =
    first_refuses _ _ c.in-Some-locked.refusal c.in-Some-locked.ensures
    ∙ stops_at world c.args.caller (seen_row c.args.row.now) c.in-Some.page c.in-Some.is
    c.in-Some-row.kept.now.body
    (body_found c.args.part.now.rows.pages world.tree stands.pages c.in-Some.page
    c.in-Some-row.kept.now c.in-Some-row.ensures)

pub returns-in-Some-aliased : goal.returns-in-Some-aliased
returns-in-Some-aliased c world stands =
    later_refuses _ _ _ c.in_default-locked.ensures
    (first_refuses _ _ c.in-Some-aliased.refusal c.in-Some-aliased.ensures)
    ∙ stops_at world c.args.caller (seen_row c.args.row.now) c.in-Some.page c.in-Some.is
    c.in-Some-row.kept.now.body
    (body_found c.args.part.now.rows.pages world.tree stands.pages c.in-Some.page
    c.in-Some-row.kept.now c.in-Some-row.ensures)

pub in_moderation-requires : goal.in_moderation-requires
in_moderation-requires c =
    page_counted c.args.part.now c.requires.0 c.in-Some.page c.in-Some-row.kept.now.body c.requires.1
    (body_found c.args.part.now.rows.pages c.requires.0.tree c.requires.1.stands.pages c.in-Some.page
    c.in-Some-row.kept.now c.in-Some-row.ensures)

pub returns : goal.returns
returns c world stands =
    later_refuses _ _ _ c.in_default-locked.ensures
    (later_refuses _ _ _ c.in_default-aliased.ensures
    (only_refuses _ _ (c.in_moderation.ensures world stands)))
    ∙ stops_at world c.args.caller (seen_row c.args.row.now) c.in-Some.page c.in-Some.is
    c.in-Some-row.kept.now.body
    (body_found c.args.part.now.rows.pages world.tree stands.pages c.in-Some.page
    c.in-Some-row.kept.now c.in-Some-row.ensures)
