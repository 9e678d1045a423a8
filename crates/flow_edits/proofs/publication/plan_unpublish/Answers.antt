-- The page is there; whether it is live.
use Rattle.std.proofs.Common.{max, ap, ◌∙◌}
use Rattle.flow_edits.proofs.Facts.{unpublish_names}
use Rattle.flow_edits.proofs.PublishPlans.{unpublish_dead, unpublish_prepared}
use Rattle.flow_edits.proofs.publication.plan_unpublish.Goals as goal

pub kept_of-body-requires : goal.kept_of-body-requires
kept_of-body-requires c =
    let world = c.requires.0 in
    let asked = c.requires.3 in (
      world,
      asked.given.ready.stands,
      (unpublish_names world c.requires.2 c.args.page asked.front).there,
    )

pub returns-then-not-body : goal.returns-then-not-body
returns-then-not-body c = λ world desk caller asked.
    unpublish_dead c.args.part.now world desk c.args.now caller c.args.page asked c.kept_of-body.result
    (c.kept_of-body.ensures world asked.given.ready.stands)
    c.if-not-body.true

pub returns : goal.returns
returns c = λ world desk caller asked.
    unpublish_prepared c.args.part.now world desk c.args.now caller c.args.page asked c.kept_of-body.result
    (c.kept_of-body.ensures world asked.given.ready.stands)
    c.if-not-body.false c.later-time.result
    (c.later-time.ensures ∙ ap (λ t. max t c.args.now) asked.given.ready.stands.time)
    c.unpublished_body-after.result c.no_pages.result c.unpublished_body-after.ensures
    c.no_pages.ensures c.body_plan.result c.body_plan.ensures
