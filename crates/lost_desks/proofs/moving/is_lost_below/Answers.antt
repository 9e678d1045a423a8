-- A desk is lost on a page that goes along if its user may not edit there.
use Rattle.std.proofs.Common.{◌≡◌, true, sym, ◌∙◌}
use Rattle.site_model.specs.Losing.{is_within}
use Rattle.site_part.proofs.LiveLemmas.{body_found, body_missing}
use Rattle.lost_desks.proofs.BelowLemmas.{kept_outside, lost_inside}
use Rattle.lost_desks.proofs.WayLemmas.{nowhere}
use Rattle.lost_desks.proofs.moving.is_lost_below.Goals as goal

pub returns-in_default : goal.returns-in_default
returns-in_default c world has =
    kept_outside world c.args.top c.args.parent c.args.page c.args.user
    (sym (nowhere world.tree c.args.top c.args.page
    (body_missing c.args.part.now.rows.pages world.tree has.pages c.args.page c.in_default.ensures)))

pub returns-then-is_within : goal.returns-then-is_within
returns-then-is_within c world has =
    let inside : is_within world.tree c.args.top c.args.page ≡ true =
    sym (c.is_within.ensures world.tree has.pages) ∙ c.if-is_within.true in
    lost_inside world c.args.top c.args.parent c.args.page c.args.user c.may_edit_below.result inside
    (c.may_edit_below.ensures world has inside
    (body_found c.args.part.now.rows.pages world.tree has.pages c.args.page c.in-Some.row.now
    c.in-Some.ensures))

pub returns-else-is_within : goal.returns-else-is_within
returns-else-is_within c world has =
    kept_outside world c.args.top c.args.parent c.args.page c.args.user
    (sym (c.is_within.ensures world.tree has.pages) ∙ c.if-is_within.false)
