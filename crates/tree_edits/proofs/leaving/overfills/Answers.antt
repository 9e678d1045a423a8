-- There is room beside all revisions, or what stays is weighed.
use Rattle.std.proofs.Common.{◌≤◌, not, filter, sym, ap, subst, ◌∙◌}
use Rattle.page_tree.specs.Tree.{has_page, node_of}
use Rattle.site_types.specs.declared.revision.Revision.{Revision}
use Rattle.site_model.specs.Limits.{MAX_CONTENTS, contents_length}
use Rattle.site_model.specs.World as worlds
use Rattle.site_part.specs.Standing.{IsReady}
use Rattle.site_part.specs.declared.part.TreePart.{TreePart}
use Rattle.revision_shelf.specs.Shelf.{total_weight}
use Rattle.new_pages.proofs.CreationRules.{weights_are}
use Rattle.tree_edits.proofs.LeavingMade.{room_beside_all, room_beside}
use Rattle.tree_edits.proofs.leaving.overfills.Goals as goal

-- all contents weigh no more than they may
weighs : (part : TreePart) (world : worlds.TreePart) → IsReady part world →
    total_weight part.shelf.revisions ≤ MAX_CONTENTS
weighs part world ready =
    subst (λ n. n ≤ MAX_CONTENTS)
    (sym (weights_are part.shelf.revisions ∙ ap contents_length ready.stands.revisions))
    ready.reached.sound.revisions.contents_fit

pub overflow_sub-weight : goal.overflow_sub-weight
overflow_sub-weight c =
    subst (λ n. n ≤ MAX_CONTENTS) (sym c.weight.ensures)
    (weighs c.args.part.now c.requires.0 c.requires.1)

pub returns-then-not-weighs_more : goal.returns-then-not-weighs_more
returns-then-not-weighs_more c = λ world ready.
    room_beside_all (λ (revision : Revision). not (has_page revision.page
    (node_of c.args.page world.tree)))
    world.revisions c.args.revisions.now c.weight.result
    (c.weight.ensures ∙ (weights_are c.args.part.now.shelf.revisions
    ∙ ap contents_length ready.stands.revisions))
    (subst (λ n. n ≤ MAX_CONTENTS) (sym c.weight.ensures) (weighs c.args.part.now world ready))
    (sym c.weighs_more.ensures ∙ c.if-not-weighs_more.true)

pub returns : goal.returns
returns c = λ world ready.
    c.weighs_more-2.ensures
    ∙ room_beside
    (contents_length (filter (λ (revision : Revision). not (has_page revision.page
    (node_of c.args.page world.tree))) world.revisions))
    c.room_left.result (contents_length c.args.revisions.now) (c.room_left.ensures world ready)
