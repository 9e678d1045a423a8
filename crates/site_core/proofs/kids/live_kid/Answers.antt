-- The kid's row tells whether it is live, and its URL and what it shows what is said of it.
use Rattle.std.proofs.Common.{Some, ap, ◌∙◌}
use Rattle.std.specs.Option.{option_copied}
use Rattle.site_core.proofs.CardLemmas.{kid_told, kid_hidden}
use Rattle.site_core.proofs.kids.live_kid.Goals as goal

pub returns-then-not-is_live_by : goal.returns-then-not-is_live_by
returns-then-not-is_live_by c = λ tree is.
    kid_hidden tree c.args.shelf.now.revisions c.args.rows.now.pages c.args.kid c.in-Some.row.now
    c.is_live_by.result c.in-Some.ensures (c.is_live_by.ensures tree is) c.if-not-is_live_by.true

pub returns : goal.returns
returns c = λ tree is.
    kid_told tree c.args.shelf.now.revisions c.args.rows.now.pages c.args.kid c.in-Some.row.now
    c.in_ok-url.url c.in_ok-title.title (option_copied c.find_shown.result) c.is_live_by.result
    c.in-Some.ensures (ap Some c.in_ok-url.ensures ∙ c.in-Some-url.ensures)
    (c.is_live_by.ensures tree is) c.if-not-is_live_by.false (c.find_shown.ensures tree is)
    c.in_ok-title.ensures
