-- What is left falls by each content.
use Rattle.std.proofs.Common.{sym, refl}
use Rattle.std.proofs.lemmas.Option.{slice_get_read}
use Rattle.std.proofs.Common.{length}
use Rattle.new_pages.proofs.WeightLemmas.{left_more, left_over}
use Rattle.new_pages.proofs.weighing.weighs_more.Goals as goal

pub returns-then-left-form : goal.returns-then-left-form
returns-then-left-form c =
    sym (left_over c.args.revisions.now c.loop-revision.revision-index c.loop-revision.left
    c.args.room c.revision-item.result
    (slice_get_read c.args.revisions.now (length c.args.revisions.now)
    c.loop-revision.revision-index c.revision-item.result refl c.loop-revision-test.true
    c.revision-item.is) c.loop-revision.invariant c.form_length-form.result
    c.form_length-form.ensures.value c.if-left-form.true)

pub loop-revision-preserved : goal.loop-revision-preserved
loop-revision-preserved c =
    left_more c.args.revisions.now c.loop-revision.revision-index c.loop-revision.left c.args.room
    c.revision-item.result
    (slice_get_read c.args.revisions.now (length c.args.revisions.now)
    c.loop-revision.revision-index c.revision-item.result refl c.loop-revision-test.true
    c.revision-item.is) c.loop-revision.invariant c.form_length-form.result
    c.form_length-form.ensures.value c.if-left-form.false
