-- The marks and the parts make the whole text.
use Rattle.std.proofs.Common.{refl}
use Rattle.time_table.proofs.TextLemmas.{text_from_parts}
use Rattle.time_table.proofs.parts.read_parts.Goals as goal

pub returns-clause-some : goal.returns-clause-some
returns-clause-some c =
    let year = c.in_ok-read_four.ensures.some in
    let month = c.in_ok-read_two.ensures.some in
    let day = c.in_ok-read_two-2.ensures.some in
    let hour = c.in_ok-read_two-3.ensures.some in
    let minute = c.in_ok-read_two-4.ensures.some in
    let second = c.in_ok-read_two-5.ensures.some in (
      (year.0, month.0, day.0, hour.0, minute.0, second.0),
      text_from_parts c.args.text.now (record {
        year = c.in_ok-read_four.field-0;
        month = c.in_ok-read_two.field-0;
        day = c.in_ok-read_two-2.field-0;
        hour = c.in_ok-read_two-3.field-0;
        minute = c.in_ok-read_two-4.field-0;
        second = c.in_ok-read_two-5.field-0;
      }) (c.if-not-has_marks.ensures.0 refl) year.1 month.1 day.1 hour.1 minute.1 second.1,
    )
