-- The place that is found is that of the id, and where none is, the id is not among them.
use Rattle.std.proofs.Common.{◌∙◌, sym}
use Rattle.revision_shelf.proofs.CutLemmas.{cut_found, cut_absent}
use Rattle.revision_shelf.proofs.remove.cut.Goals as goal

pub returns-in-Ok-clause-items : goal.returns-in-Ok-clause-items
returns-in-Ok-clause-items c =
    c.remove.ensures.items
    ∙ cut_found c.args.id c.args.order.now.items c.deref.result.now c.in-Ok.place c.requires
    c.deref.ensures.value c.in-Ok.ensures.position

pub returns-in_default-clause-items : goal.returns-in_default-clause-items
returns-in_default-clause-items c =
    sym (cut_absent c.args.id c.args.order.now.items c.deref.result.now c.in_default.field-0 c.requires
    c.deref.ensures.value c.in_default.ensures.position)
