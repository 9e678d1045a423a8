-- The place is tried, then the ids, then the content.
use Rattle.std.proofs.Common.{◌+◌, ap, ◌∙◌}
use Rattle.site_model.specs.Limits.{contents_length}
use Rattle.new_pages.proofs.CommandLemmas.{create_names}
use Rattle.site_model.specs.Create.{fresh_body}
use Rattle.new_pages.proofs.CreationRules.{ids_refuse, weights_are, sum_fits, place_refuses, content_refuses, page_clear}
use Rattle.new_pages.proofs.creation.plan_page.Goals as goal

pub plan_place-requires : goal.plan_place-requires
plan_place-requires c =
    let asked = c.requires.1 in (
      c.requires.0,
      asked.ready.stands.pages,
      asked.ready.reached.sound.pages,
      create_names c.requires.0 c.args.caller c.args.parent c.args.slug.now c.args.content.now
          asked.front,
    )

pub returns-in_default : goal.returns-in_default
returns-in_default c = λ world asked.
    let place = c.in-Ok.ensures world (fresh_body c.args.caller world.next_revision)
    asked.ready.stands.pages asked.ready.reached.sound.pages (create_names world c.args.caller
    c.args.parent c.args.slug.now c.args.content.now asked.front) in
    ids_refuse world c.args.now c.args.caller c.args.parent c.args.slug.now c.args.content.now
    place.0 (c.in_default.ensures world asked.ready)

pub returns-in-Err : goal.returns-in-Err
returns-in-Err c = λ world asked.
    place_refuses world c.args.now c.args.caller c.args.parent c.args.slug.now c.args.content.now
    c.in-Err.fault
    (c.in-Err.ensures world (fresh_body c.args.caller world.next_revision)
    asked.ready.stands.pages asked.ready.reached.sound.pages
    (create_names world c.args.caller c.args.parent c.args.slug.now
    c.args.content.now asked.front))

pub overflow_add-weight : goal.overflow_add-weight
overflow_add-weight c =
    let ready = c.requires.1.ready in
    sum_fits c.weight.result c.form_length.result _ c.args.content.now
    (c.weight.ensures ∙ (weights_are c.args.part.now.shelf.revisions
    ∙ ap contents_length ready.stands.revisions)) ready.reached.sound.revisions.contents_fit
    c.form_length.ensures.value
    c.form_length.ensures.fits

pub returns-then-weight-form_length-gt-MAX_CONTENT_SUM :
    goal.returns-then-weight-form_length-gt-MAX_CONTENT_SUM
returns-then-weight-form_length-gt-MAX_CONTENT_SUM c = λ world asked.
    let place = c.in-Ok.ensures world (fresh_body c.args.caller world.next_revision)
    asked.ready.stands.pages asked.ready.reached.sound.pages
    (create_names world c.args.caller c.args.parent c.args.slug.now
    c.args.content.now asked.front) in
    let ids = c.in-Some.ensures world asked.ready in
    content_refuses world c.args.now c.args.caller c.args.parent c.args.slug.now
    c.args.content.now place.0 ids.0 c.weight.result _
    (c.weight.ensures ∙ (weights_are c.args.part.now.shelf.revisions
    ∙ ap contents_length asked.ready.stands.revisions))
    (ap (λ n. c.weight.result + n) c.form_length.ensures.value)
    c.if-weight-form_length-gt-MAX_CONTENT_SUM.true

pub returns : goal.returns
returns c = λ world asked.
    let place = c.in-Ok.ensures world (fresh_body c.args.caller world.next_revision)
    asked.ready.stands.pages asked.ready.reached.sound.pages
    (create_names world c.args.caller c.args.parent c.args.slug.now
    c.args.content.now asked.front) in
    let ids = c.in-Some.ensures world asked.ready in (
      page_clear world c.args.now c.args.caller c.args.parent c.args.slug.now
          c.args.content.now place.0 ids.0 c.weight.result _
          (c.weight.ensures ∙ (weights_are c.args.part.now.shelf.revisions
          ∙ ap contents_length asked.ready.stands.revisions))
          (ap (λ n. c.weight.result + n) c.form_length.ensures.value)
          c.if-weight-form_length-gt-MAX_CONTENT_SUM.false,
      record {
        place = place.1;
        page = ap (λ pair. pair.0) ids.1;
        revision = ap (λ pair. pair.1) ids.1;
      },
    )
