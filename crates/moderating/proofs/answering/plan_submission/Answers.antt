-- The page is there and has a latest revision; whether a moderation begins or goes on.
use Rattle.std.proofs.Common.{max, sym, ap, subst, ◌∙◌, IsSome}
use Rattle.page_tree.specs.Rows.{row_with}
use Rattle.moderating.proofs.Facts.{submit_names, submit_regular, latest_kept}
use Rattle.moderating.proofs.Planned.{row_there}
use Rattle.moderating.proofs.AnswerPlans.{submit_lost, submit_prepared}
use Rattle.moderating.proofs.answering.plan_submission.Goals as goal

pub kept_of-body-requires : goal.kept_of-body-requires
kept_of-body-requires c =
    let world = c.requires.0 in
    let asked = c.requires.2 in (
      world,
      asked.given.ready.stands,
      (submit_names world c.args.caller c.args.page asked.front).there,
    )

pub unreachable-requires : goal.unreachable-requires
unreachable-requires c =
    let world = c.requires.0 in
    let asked = c.requires.2 in
    latest_kept world c.args.page c.kept_of-body.result asked.given.ready.reached
    (submit_names world c.args.caller c.args.page asked.front)
    (c.kept_of-body.ensures world asked.given.ready.stands)
    (submit_regular world c.args.caller c.args.page asked.front) c.in_default.is

pub submitted-requires : goal.submitted-requires
submitted-requires c =
    let world = c.requires.0 in
    let stands = c.requires.2.given.ready.stands in
    subst (λ pages. IsSome (row_with c.args.page pages)) (sym stands.pages)
    (row_there c.args.page c.kept_of-body.result world.tree (c.kept_of-body.ensures world stands))

pub returns-in-Some-submitted : goal.returns-in-Some-submitted
returns-in-Some-submitted c = λ world desk asked.
    let stands = asked.given.ready.stands in
    submit_prepared c.args.part.now world desk c.args.now c.args.caller c.args.page
    c.kept_of-body.result (c.kept_of-body.ensures world stands) asked c.in-Some.latest c.in-Some.is
    c.in-Some-submitted.left
    (sym (c.submitted.ensures world stands.pages stands.flows.workflows) ∙ c.in-Some-submitted.is)
    c.later-time.result
    (c.later-time.ensures ∙ ap (λ t. max t c.args.now) stands.time) c.moderated_plan.result
    (c.moderated_plan.ensures world asked.given.ready)

pub returns-in-None : goal.returns-in-None
returns-in-None c = λ world desk asked.
    let stands = asked.given.ready.stands in
    submit_lost c.args.part.now world desk c.args.now c.args.caller c.args.page
    c.kept_of-body.result (c.kept_of-body.ensures world stands) asked c.in-Some.latest c.in-Some.is
    (sym (c.submitted.ensures world stands.pages stands.flows.workflows) ∙ c.in-None.is)
