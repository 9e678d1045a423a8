-- One revision more: it stays, or goes.
use Rattle.std.proofs.Common.{◌≡◌, ◌+◌, ◌≤◌, ◌-◌, length, not, take, filter, refl, sym, ap, subst, ◌∙◌, arith}
use Rattle.page_tree.specs.Tree.{has_page, node_of}
use Rattle.site_types.specs.declared.revision.Revision.{Revision}
use Rattle.site_model.specs.Limits.{MAX_CONTENTS, contents_length}
use Rattle.tree_edits.proofs.LeavingMade.{room_fits, room_more}
use Rattle.new_pages.proofs.LookUpLemmas.{row_there}
use Rattle.tree_edits.proofs.leaving.room_left.Goals as goal

pub goes-goes-requires : goal.goes-goes-requires
goes-goes-requires c =
    row_there c.args.page c.requires.0.tree c.args.part.now.rows.pages
    c.requires.1.stands.pages ∙ c.requires.2

pub less-room-requires : goal.less-room-requires
less-room-requires c =
    let world = c.requires.0 in
    let ready = c.requires.1 in
    let test = λ (revision : Revision). not (has_page revision.page (node_of c.args.page world.tree)) in
    λ stays. room_fits test c.args.part.now.shelf.revisions c.loop-place.place c.loop-place.room
    c.in-Some.revision.now (sym c.in-Some.ensures) (c.loop-place.invariant world ready)
    (subst (λ (ones : Rattle.std.proofs.Common.List Revision). contents_length ones ≤ MAX_CONTENTS)
    (sym ready.stands.revisions) ready.reached.sound.revisions.contents_fit)
    c.form_length.result c.form_length.ensures.value
    (ap not (sym (c.goes-goes.ensures world.tree ready.stands.pages)) ∙ stays)

pub loop-place-preserved : goal.loop-place-preserved
loop-place-preserved c = λ world ready.
    let test = λ (revision : Revision). not (has_page revision.page (node_of c.args.page world.tree)) in
    room_more test c.args.part.now.shelf.revisions c.loop-place.place c.loop-place.room
    c.in-Some.revision.now (sym c.in-Some.ensures) (c.loop-place.invariant world ready)
    (subst (λ (ones : Rattle.std.proofs.Common.List Revision). contents_length ones ≤ MAX_CONTENTS)
    (sym ready.stands.revisions) ready.reached.sound.revisions.contents_fit)
    c.form_length.result c.form_length.ensures.value
    (not c.goes-goes.result) (ap not (c.goes-goes.ensures world.tree ready.stands.pages))
    c.less-room.result c.less-room.ensures
