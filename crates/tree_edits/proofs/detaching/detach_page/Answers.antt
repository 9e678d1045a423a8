-- The row of the page has what is kept of it, and what it shows is there.
use Rattle.std.proofs.Common.{◌∙◌}
use Rattle.site_part.proofs.LiveLemmas.{body_found}
use Rattle.site_model.proofs.SourceLemmas.{found_is_there}
use Rattle.tree_edits.proofs.DetachLemmas.{detached_is, shown_is, not_missing, row_missing}
use Rattle.tree_edits.proofs.detaching.detach_page.Goals as goal

pub unreachable-requires : goal.unreachable-requires
unreachable-requires c =
    let world = c.requires.0 in
    let ready = c.requires.1 in
    let alias = c.requires.2 in
    row_missing c.args.part.now.rows.pages world.tree c.args.page ready.stands.pages
    (found_is_there world.tree c.args.page alias.body alias.found) c.in_default.ensures

pub unreachable-requires-in_default-shown_content :
    goal.unreachable-requires-in_default-shown_content
unreachable-requires-in_default-shown_content c =
    let world = c.requires.0 in
    let ready = c.requires.1 in
    not_missing world c.args.page c.in-Some.row.now.body c.requires.2 ready.reached.sound.bodies
    (body_found c.args.part.now.rows.pages world.tree ready.stands.pages c.args.page
    c.in-Some.row.now c.in-Some.ensures)
    (c.in_default-shown_content.ensures world (record {
      rows_are = ready.stands.pages;
      shelf_is = ready.stands.revisions;
    }))

pub returns : goal.returns
returns c = λ world ready alias.
    let found = body_found c.args.part.now.rows.pages world.tree ready.stands.pages c.args.page
    c.in-Some.row.now c.in-Some.ensures in
    detached_is world c.args.page c.args.caller c.args.id c.args.time c.in-Some.row.now.body
    c.is_live_page-live.result c.in_ok-content.content c.regular_body.result c.new_revision.result
    found (c.is_live_page-live.ensures world.tree ready.stands.pages)
    (c.in_ok-content.ensures
    ∙ shown_is world c.args.page c.in-Some.row.now.body c.in-Some-shown_content.content.now found
    (c.in-Some-shown_content.ensures world (record {
      rows_are = ready.stands.pages;
      shelf_is = ready.stands.revisions;
    }))) c.regular_body.ensures c.new_revision.ensures
