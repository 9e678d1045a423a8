-- The page is there; whether a moderation is in progress.
use Rattle.std.proofs.Common.{max, sym, ap, ◌∙◌}
use Rattle.site_model.specs.Moderations.{WasRejected, moderated}
use Rattle.moderating.proofs.Facts.{reject_names}
use Rattle.moderating.proofs.AnswerPlans.{reject_out, reject_prepared}
use Rattle.moderating.proofs.answering.plan_rejection.Goals as goal

pub kept_of-body-requires : goal.kept_of-body-requires
kept_of-body-requires c =
    let world = c.requires.0 in
    let asked = c.requires.3 in (
      world,
      asked.given.ready.stands,
      (reject_names world c.requires.2 c.args.page asked.front).there,
    )

pub returns-in-Some : goal.returns-in-Some
returns-in-Some c = λ world desk caller asked.
    let stands = asked.given.ready.stands in
    reject_prepared c.args.part.now world desk c.args.now caller c.args.page c.kept_of-body.result
    (c.kept_of-body.ensures world stands) asked c.in-Some.left
    (ap (λ chains. moderated chains WasRejected c.kept_of-body.result.moderation)
    (sym stands.flows.workflows) ∙ (sym c.rejected.ensures ∙ c.in-Some.is)) c.later.result
    (c.later.ensures ∙ ap (λ t. max t c.args.now) stands.time) c.moderated_plan.result
    (c.moderated_plan.ensures world asked.given.ready)

pub returns-in-None : goal.returns-in-None
returns-in-None c = λ world desk caller asked.
    let stands = asked.given.ready.stands in
    reject_out c.args.part.now world desk c.args.now caller c.args.page c.kept_of-body.result
    (c.kept_of-body.ensures world stands) asked
    (ap (λ chains. moderated chains WasRejected c.kept_of-body.result.moderation)
    (sym stands.flows.workflows) ∙ (sym c.rejected.ensures ∙ c.in-None.is))
