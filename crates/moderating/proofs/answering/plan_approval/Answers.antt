-- The page is there; whether a moderation is in progress, and what its last approval publishes.
use Rattle.std.proofs.Common.{max, sym, ap, ◌∙◌}
use Rattle.std.specs.Option.{option_copied}
use Rattle.site_model.specs.Moderations.{WasApproved, moderated}
use Rattle.moderating.proofs.Facts.{approve_names}
use Rattle.moderating.proofs.AnswerPlans.{approve_out, approve_late, approve_prepared}
use Rattle.moderating.proofs.answering.plan_approval.Goals as goal

pub kept_of-body-requires : goal.kept_of-body-requires
kept_of-body-requires c =
    let world = c.requires.0 in
    let asked = c.requires.3 in (
      world,
      asked.given.ready.stands,
      (approve_names world c.requires.2 c.args.page asked.front).there,
    )

pub returns-in_default : goal.returns-in_default
returns-in_default c = λ world desk caller asked.
    let stands = asked.given.ready.stands in
    approve_out c.args.part.now world desk c.args.now caller c.args.page c.kept_of-body.result
    (c.kept_of-body.ensures world stands) asked
    (ap (λ chains. moderated chains WasApproved c.kept_of-body.result.moderation)
    (sym stands.flows.workflows) ∙ (sym c.approved.ensures ∙ c.in_default.is))

pub returns-then-is_any_late : goal.returns-then-is_any_late
returns-then-is_any_late c = λ world desk caller asked.
    let stands = asked.given.ready.stands in
    approve_late c.args.part.now world desk c.args.now caller c.args.page c.kept_of-body.result
    (c.kept_of-body.ensures world stands) asked c.in-Some.left
    (ap (λ chains. moderated chains WasApproved c.kept_of-body.result.moderation)
    (sym stands.flows.workflows) ∙ (sym c.approved.ensures ∙ c.in-Some.is)) c.later-time.result
    (c.later-time.ensures ∙ ap (λ t. max t c.args.now) stands.time)
    (option_copied c.approved_revision-revision.result)
    (sym (c.approved_revision-revision.ensures world stands.revisions))
    (sym c.is_any_late.ensures ∙ c.if-is_any_late.true)

pub returns : goal.returns
returns c = λ world desk caller asked.
    let stands = asked.given.ready.stands in
    approve_prepared c.args.part.now world desk c.args.now caller c.args.page c.kept_of-body.result
    (c.kept_of-body.ensures world stands) asked c.in-Some.left
    (ap (λ chains. moderated chains WasApproved c.kept_of-body.result.moderation)
    (sym stands.flows.workflows) ∙ (sym c.approved.ensures ∙ c.in-Some.is)) c.later-time.result
    (c.later-time.ensures ∙ ap (λ t. max t c.args.now) stands.time)
    (option_copied c.approved_revision-revision.result)
    (sym (c.approved_revision-revision.ensures world stands.revisions))
    (sym c.is_any_late.ensures ∙ c.if-is_any_late.false) c.body_published-after.result
    c.body_published-after.ensures c.moderated_plan.result
    (c.moderated_plan.ensures world asked.given.ready)
