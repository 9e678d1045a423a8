-- The row of the source has what the source shows.
use Rattle.std.proofs.Common.{sym, ◌∙◌}
use Rattle.site_part.proofs.LiveLemmas.{body_found, body_missing}
use Rattle.page_copies.proofs.ShownLemmas.{shows_source, shows_none}
use Rattle.page_copies.proofs.content.shown_content.Goals as goal

pub returns-in-Some-row : goal.returns-in-Some-row
returns-in-Some-row c = λ part stand.
    c.content_with-in-Some-row.ensures part stand.shelf_is
    ∙ sym (shows_source part c.args.body.now c.in-Some-row.row.now.body c.in-Some.source
    c.in-Some.is
    (body_found c.args.rows.now.pages part.tree stand.rows_are c.in-Some.source
    c.in-Some-row.row.now c.in-Some-row.ensures))

pub returns-in-None-row : goal.returns-in-None-row
returns-in-None-row c = λ part stand.
    sym (shows_none part c.args.body.now c.in-Some.source c.in-Some.is
    (body_missing c.args.rows.now.pages part.tree stand.rows_are c.in-Some.source
    c.in-None-row.ensures))
