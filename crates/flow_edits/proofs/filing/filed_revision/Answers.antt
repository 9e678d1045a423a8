-- Whether the text is filed already, then the next id, then the room for the text.
use Rattle.std.proofs.Common.{◌+◌, ◌≤◌, max, ap, subst, ◌∙◌}
use Rattle.std.specs.Option.{option_copied}
use Rattle.site_ids.specs.declared.ids.TheConstants.{LAST_REVISION_ID}
use Rattle.flow_edits.proofs.FilePlans.{weights_are, sum_fits, file_full, file_clear, filed_as, filed_is_made}
use Rattle.site_model.specs.Limits.{contents_length}
use Rattle.flow_edits.proofs.filing.filed_revision.Goals as goal

pub overflow_add-weight : goal.overflow_add-weight
overflow_add-weight c =
    let world = c.requires.0 in
    let ready = c.requires.1 in
    sum_fits c.weight.result c.form_length.result (contents_length world.revisions)
    c.args.draft.now.text.now
    (c.weight.ensures ∙ (weights_are c.args.part.now.shelf.revisions
    ∙ ap contents_length ready.stands.revisions)) ready.reached.sound.revisions.contents_fit
    c.form_length.ensures.value c.form_length.ensures.fits

pub returns-then-weight-form_length-gt-MAX_CONTENT_SUM :
    goal.returns-then-weight-form_length-gt-MAX_CONTENT_SUM
returns-then-weight-form_length-gt-MAX_CONTENT_SUM c = λ world ready.
    let draft = c.args.draft.now in
    file_full world c.args.now c.args.caller c.args.page draft.go_live draft.expire draft.text.now
    (filed_as draft.text.now draft.go_live draft.expire (option_copied c.latest_of.result) _
    c.is_filed.result _ (c.latest_of.ensures world ready.stands) c.is_filed.ensures
    c.if-is_filed.false)
    (subst (λ n. n ≤ LAST_REVISION_ID) ready.stands.next_revision c.in-Some.ensures.0.1)
    c.weight.result _
    (c.weight.ensures ∙ (weights_are c.args.part.now.shelf.revisions
    ∙ ap contents_length ready.stands.revisions)) (ap (λ n. c.weight.result + n) c.form_length.ensures.value)
    c.if-weight-form_length-gt-MAX_CONTENT_SUM.true

pub returns-in-Ok : goal.returns-in-Ok
returns-in-Ok c = λ world ready.
    let draft = c.args.draft.now in (
      file_clear world c.args.now c.args.caller c.args.page draft.go_live draft.expire draft.text.now
          (filed_as draft.text.now draft.go_live draft.expire (option_copied c.latest_of.result) _
          c.is_filed.result _ (c.latest_of.ensures world ready.stands) c.is_filed.ensures
          c.if-is_filed.false)
          (subst (λ n. n ≤ LAST_REVISION_ID) ready.stands.next_revision c.in-Some.ensures.0.1)
          c.weight.result _
          (c.weight.ensures ∙ (weights_are c.args.part.now.shelf.revisions
          ∙ ap contents_length ready.stands.revisions))
          (ap (λ n. c.weight.result + n) c.form_length.ensures.value)
          c.if-weight-form_length-gt-MAX_CONTENT_SUM.false,
      c.in-Ok.ensures
          ∙ filed_is_made world c.args.now c.args.caller c.args.page draft.go_live draft.expire
          draft.text.now c.in-Some.id (c.in-Some.ensures.1 ∙ ready.stands.next_revision)
          c.later.result
          (c.later.ensures ∙ ap (λ t. max t c.args.now) ready.stands.time),
    )
