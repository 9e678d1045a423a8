-- The page is an alias; then the next id, then the room for what it shows.
use Rattle.std.proofs.Common.{◌+◌, length, max, ap, subst, ◌∙◌}
use Rattle.site_model.specs.Limits.{contents_length}
use Rattle.site_types.specs.Content.{content_form}
use Rattle.site_types.specs.declared.revision.Revision.{Revision}
use Rattle.site_part.proofs.LiveLemmas.{body_found}
use Rattle.site_model.specs.World as worlds
use Rattle.tree_edits.specs.Leaving.{IsDetachedAt}
use Rattle.new_pages.proofs.CommandLemmas.{detach_names}
use Rattle.new_pages.proofs.CreationRules.{weights_are, sum_fits}
use Rattle.tree_edits.proofs.DetachLemmas.{detach_known, detach_ids, detach_full, detach_clear, row_missing}
use Rattle.tree_edits.proofs.detaching.detached_page.Goals as goal

pub unreachable-requires : goal.unreachable-requires
unreachable-requires c =
    let world = c.requires.0 in
    let asked = c.requires.1 in
    row_missing c.args.part.now.rows.pages world.tree c.args.page asked.ready.stands.pages
    (detach_names world c.args.caller c.args.page asked.front).0 c.in_default.ensures

pub returns-in_default-source : goal.returns-in_default-source
returns-in_default-source c = λ world asked.
    detach_known world c.args.now c.args.caller c.args.page c.in-Some.row.now.body
    (body_found c.args.part.now.rows.pages world.tree asked.ready.stands.pages c.args.page
    c.in-Some.row.now c.in-Some.ensures) c.in_default-source.is

pub returns-in_default-next_revision : goal.returns-in_default-next_revision
returns-in_default-next_revision c = λ world asked.
    detach_ids world c.args.now c.args.caller c.args.page c.in-Some.row.now.body
    (body_found c.args.part.now.rows.pages world.tree asked.ready.stands.pages c.args.page
    c.in-Some.row.now c.in-Some.ensures) c.in-Some-source._source c.in-Some-source.is
    (c.in_default-next_revision.ensures world asked.ready)

pub detach_page-requires : goal.detach_page-requires
detach_page-requires c =
    let world = c.requires.0 in
    let asked = c.requires.1 in (
      world,
      asked.ready,
      record {
        body = c.in-Some.row.now.body;
        found = body_found c.args.part.now.rows.pages world.tree asked.ready.stands.pages
            c.args.page c.in-Some.row.now c.in-Some.ensures;
        source = c.in-Some-source._source;
        is = c.in-Some-source.is;
      },
    )

pub overflow_add-weight : goal.overflow_add-weight
overflow_add-weight c =
    let ready = c.requires.1.ready in
    sum_fits c.weight.result c.form_length.result _ c.in-Ok.made.revision.content
    (c.weight.ensures ∙ (weights_are c.args.part.now.shelf.revisions
    ∙ ap contents_length ready.stands.revisions)) ready.reached.sound.revisions.contents_fit
    c.form_length.ensures.value c.form_length.ensures.fits

pub returns-then-weight-form_length-gt-MAX_CONTENT_SUM :
    goal.returns-then-weight-form_length-gt-MAX_CONTENT_SUM
returns-then-weight-form_length-gt-MAX_CONTENT_SUM c = λ world asked.
    let found = body_found c.args.part.now.rows.pages world.tree asked.ready.stands.pages
    c.args.page c.in-Some.row.now c.in-Some.ensures in
    let told = c.in-Ok.ensures world asked.ready (record {
      body = c.in-Some.row.now.body;
      found = found;
      source = c.in-Some-source._source;
      is = c.in-Some-source.is;
    }) in
    detach_full world c.args.now c.args.caller c.args.page c.in-Some.row.now.body found
    c.in-Some-source._source c.in-Some-source.is
    (c.in-Some-next_revision.ensures world asked.ready).0 c.weight.result _
    (c.weight.ensures ∙ (weights_are c.args.part.now.shelf.revisions
    ∙ ap contents_length asked.ready.stands.revisions))
    (ap (λ n. c.weight.result + n) (c.form_length.ensures.value
    ∙ ap (λ (r : Revision). length (content_form r.content)) told.revision))
    c.if-weight-form_length-gt-MAX_CONTENT_SUM.true

pub returns : goal.returns
returns c = λ world asked.
    let found = body_found c.args.part.now.rows.pages world.tree asked.ready.stands.pages
    c.args.page c.in-Some.row.now c.in-Some.ensures in
    let told = c.in-Ok.ensures world asked.ready (record {
      body = c.in-Some.row.now.body;
      found = found;
      source = c.in-Some-source._source;
      is = c.in-Some-source.is;
    }) in
    let given = c.in-Some-next_revision.ensures world asked.ready in (
      detach_clear world c.args.now c.args.caller c.args.page c.in-Some.row.now.body found
          c.in-Some-source._source c.in-Some-source.is given.0 c.weight.result _
          (c.weight.ensures ∙ (weights_are c.args.part.now.shelf.revisions
          ∙ ap contents_length asked.ready.stands.revisions))
          (ap (λ n. c.weight.result + n) (c.form_length.ensures.value
          ∙ ap (λ (r : Revision). length (content_form r.content)) told.revision))
          c.if-weight-form_length-gt-MAX_CONTENT_SUM.false,
      subst (λ n. IsDetachedAt world (worlds.time_at world c.args.now) n c.args.caller c.args.page
          c.in-Ok.made) given.1
          (subst (λ t. IsDetachedAt world t c.in-Some-next_revision.id c.args.caller c.args.page
          c.in-Ok.made)
          (c.later.ensures.value ∙ ap (λ t. max t c.args.now) asked.ready.stands.time) told),
    )
