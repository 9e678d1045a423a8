-- One more is written.
use Rattle.std.proofs.Common.{IsUtf8}
use Rattle.site_types.specs.Content.{text_form}
use Rattle.content_codec.proofs.Writing.{next_text, form_goes_on, rest_fits, one_more_holds, all_hold}
use Rattle.content_codec.proofs.writer.Writer.each_text.Goals as goal

pub loop-text-preserved : goal.loop-text-preserved
loop-text-preserved c =
    let at = c.loop-text.text-index in
    let next =
    next_text c.args.texts.now at c.text-item.result c.loop-text-test.true c.text-item.is in
    let so_far = c.loop-text.invariant in (
      form_goes_on c.loop-text.self c.text.new.self (text_form c.text-item.result) _ _ _
          c.in_ok-text.ensures.form next so_far.0,
      rest_fits (text_form c.text-item.result) _ _ _ next so_far.1,
      one_more_holds IsUtf8 c.args.texts.now at c.text-item.result c.loop-text-test.true
          c.text-item.is
          c.in_ok-text.ensures.utf8 so_far.2,
    )

pub returns-clause-are_texts : goal.returns-clause-are_texts
returns-clause-are_texts c =
    all_hold IsUtf8 c.args.texts.now c.loop-text.text-index c.loop-text-test.false
    c.loop-text.invariant.2
