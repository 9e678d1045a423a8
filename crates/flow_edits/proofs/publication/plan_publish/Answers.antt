-- The page is there and has a latest revision; whether that is out already, and whether it is too late.
use Rattle.std.proofs.Common.{max, sym, ap, ◌∙◌}
use Rattle.std.specs.Option.{option_copied}
use Rattle.site_types.specs.declared.body.Body.{Body}
use Rattle.site_model.specs.LosingLaws.{desks_lost_with}
use Rattle.site_part.specs.Plans.{pages_of}
use Rattle.moderating.proofs.Facts.{latest_there}
use Rattle.flow_edits.proofs.Facts.{publish_names, publish_regular}
use Rattle.flow_edits.proofs.PublishPlans.{publish_known, publish_late, publish_prepared}
use Rattle.flow_edits.proofs.publication.plan_publish.Goals as goal

pub kept_of-body-requires : goal.kept_of-body-requires
kept_of-body-requires c =
    let world = c.requires.0 in
    let asked = c.requires.3 in (
      world,
      asked.given.ready.stands,
      (publish_names world c.requires.2 c.args.page asked.front).there,
    )

pub unreachable-requires : goal.unreachable-requires
unreachable-requires c =
    let world = c.requires.0 in
    let asked = c.requires.3 in
    latest_there world c.args.page asked.given.ready.reached
    (publish_names world c.requires.2 c.args.page asked.front)
    (publish_regular world c.requires.2 c.args.page asked.front)
    (ap option_copied (sym c.in_default.is)
    ∙ c.latest_of.ensures world asked.given.ready.stands)

pub returns-then-is_out : goal.returns-then-is_out
returns-then-is_out c = λ world desk caller asked.
    publish_known c.args.part.now world desk c.args.now caller c.args.page asked c.kept_of-body.result
    (c.kept_of-body.ensures world asked.given.ready.stands)
    c.in-Some.revision.now
    (sym (c.latest_of.ensures world asked.given.ready.stands)
    ∙ ap option_copied c.in-Some.is) c.later-time.result
    (c.later-time.ensures ∙ ap (λ t. max t c.args.now) asked.given.ready.stands.time)
    (sym c.is_out.ensures ∙ c.if-is_out.true)

pub returns-then-is_late : goal.returns-then-is_late
returns-then-is_late c = λ world desk caller asked.
    publish_late c.args.part.now world desk c.args.now caller c.args.page asked c.kept_of-body.result
    (c.kept_of-body.ensures world asked.given.ready.stands)
    c.in-Some.revision.now
    (sym (c.latest_of.ensures world asked.given.ready.stands)
    ∙ ap option_copied c.in-Some.is) c.later-time.result
    (c.later-time.ensures ∙ ap (λ t. max t c.args.now) asked.given.ready.stands.time)
    (sym c.is_out.ensures ∙ c.if-is_out.false) (sym c.is_late.ensures ∙ c.if-is_late.true)

pub returns : goal.returns
returns c = λ world desk caller asked.
    publish_prepared c.args.part.now world desk c.args.now caller c.args.page asked c.kept_of-body.result
    (c.kept_of-body.ensures world asked.given.ready.stands)
    c.in-Some.revision.now
    (sym (c.latest_of.ensures world asked.given.ready.stands)
    ∙ ap option_copied c.in-Some.is) c.later-time.result
    (c.later-time.ensures ∙ ap (λ t. max t c.args.now) asked.given.ready.stands.time)
    (sym c.is_out.ensures ∙ c.if-is_out.false) (sym c.is_late.ensures ∙ c.if-is_late.false)
    c.waits.result c.published_by_command-after.result c.in-Ok.shut c.waits.ensures
    c.published_by_command-after.ensures
    (c.in-Ok.ensures world asked.given.ready
    ∙ ap (λ (after : Body). pages_of (desks_lost_with world c.args.page after.moderation))
    c.published_by_command-after.ensures) c.body_plan.result c.body_plan.ensures
