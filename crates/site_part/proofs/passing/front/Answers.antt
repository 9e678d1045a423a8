-- The rules are tried in their order.
use Rattle.std.proofs.Common.{ap, ◌∙◌}
use Rattle.command_rows.specs.Rows.{seen_row}
use Rattle.site_part.specs.Needs.{rule_told}
use Rattle.site_part.proofs.PassingLemmas.{missing_refuses, root_refuses, need_refuses, stops_decide}
use Rattle.site_part.proofs.passing.front.Goals as goal

pub returns-in-Some : goal.returns-in-Some
returns-in-Some c world stands =
    missing_refuses world c.args.caller c.args.command.now (seen_row c.row_of-row.result) c.row_of-row.ensures
    c.in-Some.refusal (c.in-Some.ensures world.tree stands.pages)

pub returns-then-has_root : goal.returns-then-has_root
returns-then-has_root c world stands =
    root_refuses world c.args.caller c.args.command.now (seen_row c.row_of-row.result) c.row_of-row.ensures
    (c.in_default.ensures world.tree stands.pages) c.has_root.result c.has_root.ensures
    c.if-has_root.true

pub returns-in-Err : goal.returns-in-Err
returns-in-Err c world stands =
    need_refuses world c.args.caller c.args.command.now (seen_row c.row_of-row.result) c.row_of-row.ensures
    (c.in_default.ensures world.tree stands.pages) c.has_root.result c.has_root.ensures
    c.if-has_root.false c.in-Err.need.number (c.in-Err.ensures world stands)

pub returns-in-Some-stopped : goal.returns-in-Some-stopped
returns-in-Some-stopped c world stands =
    ap rule_told (c.in-Some-stopped.ensures world stands)
    ∙ stops_decide world c.args.caller c.args.command.now (seen_row c.row_of-row.result) c.row_of-row.ensures
    (c.in_default.ensures world.tree stands.pages) c.has_root.result c.has_root.ensures
    c.if-has_root.false (c.in_default-may.ensures world stands)

pub returns-in-None : goal.returns-in-None
returns-in-None c world stands =
    ap rule_told (c.in-None.ensures world stands)
    ∙ stops_decide world c.args.caller c.args.command.now (seen_row c.row_of-row.result) c.row_of-row.ensures
    (c.in_default.ensures world.tree stands.pages) c.has_root.result c.has_root.ensures
    c.if-has_root.false (c.in_default-may.ensures world stands)
