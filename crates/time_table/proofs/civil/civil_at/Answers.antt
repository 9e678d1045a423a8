-- What `jiff` shows at the instant is the civil second of the moment.
use Rattle.std.proofs.Common.{◌∙◌, sym, subst, arith}
use Rattle.civil_time.specs.Civil.{Civil, IsCivil}
use Rattle.civil_time.specs.TimeText.{civil_at}
use Rattle.civil_time.proofs.TextLemmas.{month_days-le}
use Rattle.time_table.proofs.ShownLemmas.{shown_at_moment}
use Rattle.time_table.proofs.WrittenLemmas.{same_civil, cast_year, cast_part, year_can_be_cast}
use Rattle.time_table.proofs.civil.civil_at.Goals as goal

pub overflow_cast-result : goal.overflow_cast-result
overflow_cast-result c =
    let found = shown_at_moment c.args.at c.get.result _ c.to_datetime-civil.result
    c.get.ensures.value c.get.ensures.range c.in-Ok.ensures.value c.to_datetime-civil.ensures in
    let civil = civil_at c.args.at in
    year_can_be_cast c.year.result civil.year (c.year.ensures ∙ found.0.0) found.1.last_year

pub returns-clause-value : goal.returns-clause-value
returns-clause-value c =
    let found = shown_at_moment c.args.at c.get.result _ c.to_datetime-civil.result
    c.get.ensures.value c.get.ensures.range c.in-Ok.ensures.value c.to_datetime-civil.ensures in
    let shows = found.0 in
    let exists = found.1 in
    let civil = civil_at c.args.at in
    let long = month_days-le civil.year civil.month in
    same_civil _ civil (record {
      year = cast_year c.year.result civil.year (c.year.ensures ∙ shows.0) exists.last_year;
      month = cast_part c.month.result _ civil.month c.month.ensures shows.1 (omega arith);
      day = cast_part c.day.result _ civil.day c.day.ensures shows.2 (omega arith);
      hour = cast_part c.hour.result _ civil.hour c.hour.ensures shows.3 (omega arith);
      minute = cast_part c.minute.result _ civil.minute c.minute.ensures shows.4 (omega arith);
      second = cast_part c.second.result _ civil.second c.second.ensures shows.5 (omega arith);
    })

pub returns-clause-exists : goal.returns-clause-exists
returns-clause-exists c =
    let found = shown_at_moment c.args.at c.get.result _ c.to_datetime-civil.result
    c.get.ensures.value c.get.ensures.range c.in-Ok.ensures.value c.to_datetime-civil.ensures in
    let exists : Civil → Type 0 = λ civil. IsCivil civil in
    subst exists (sym (returns-clause-value c)) found.1
