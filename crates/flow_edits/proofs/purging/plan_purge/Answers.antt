-- The page is there; whether any revision goes.
use Rattle.std.proofs.Common.{length, max, ap, ◌∙◌}
use Rattle.flow_edits.proofs.Facts.{purge_names}
use Rattle.flat_model.specs.declared.change.Purge.{Purge}
use Rattle.flow_edits.specs.Plans.{taken}
use Rattle.flow_edits.proofs.PurgePlans.{purge_idle, purge_told}
use Rattle.flow_edits.proofs.purging.plan_purge.Goals as goal

pub kept_of-body-requires : goal.kept_of-body-requires
kept_of-body-requires c =
    let world = c.requires.0 in
    let asked = c.requires.3 in (
      world,
      asked.given.ready.stands,
      (purge_names world c.requires.2 c.args.page asked.front).there,
    )

pub returns-then-count-eq0 : goal.returns-then-count-eq0
returns-then-count-eq0 c = λ world desk caller asked.
    purge_idle c.args.part.now world desk c.args.now caller c.args.page asked c.kept_of-body.result
    (c.kept_of-body.ensures world asked.given.ready.stands)
    c.taken_by-count.result
    (c.taken_by-count.ensures
    ∙ ap (λ (purge : Purge). length (taken purge c.args.part.now.shelf.revisions))
    c.purge_of-purge.ensures) c.if-count-eq0.true

pub returns : goal.returns
returns c = λ world desk caller asked.
    purge_told c.args.part.now world desk c.args.now caller c.args.page asked c.kept_of-body.result
    (c.kept_of-body.ensures world asked.given.ready.stands)
    c.taken_by-count.result
    (c.taken_by-count.ensures
    ∙ ap (λ (purge : Purge). length (taken purge c.args.part.now.shelf.revisions))
    c.purge_of-purge.ensures) c.if-count-eq0.false c.later.result
    (c.later.ensures ∙ ap (λ t. max t c.args.now) asked.given.ready.stands.time)
    c.purge_of-purge.result c.purge_of-purge.ensures c.of_tree-change.result c.of_tree-change.ensures
    c.no_pages.result c.no_pages.ensures c.ending.result c.ending.ensures
