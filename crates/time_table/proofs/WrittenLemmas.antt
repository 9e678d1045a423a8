-- Civil seconds that exist, and those that two and four digits can write.
use Rattle.std.proofs.Common.{◌≡◌, ℕ, ◌<◌, ◌≤◌, ◌∙◌, List, Option, Some, None, SomeIff, IfSome, nat_abs, int_div, ◌*◌, ◌/◌, ◌-ℤ◌, refl, arith, rules, ℤ, pos, to_z, of_z, T, Fits, w16, w8, w64}
use lib.Signed.{non_neg}
use Rattle.std.proofs.lemmas.Int.{ints}
use Rattle.site_types.specs.Moment.{IsMoment}
use Rattle.civil_time.specs.Civil.{Civil, IsCivil, moment_of, civil_text}
use Rattle.civil_time.specs.TimeText.{IsTimeText}
use Rattle.civil_time.proofs.CivilLemmas.{IsSame, moment_of-le}
use Rattle.civil_time.proofs.TextLemmas.{month_days-le}
use Rattle.jiff_core.specs.Calendar.{IsDate}
use Rattle.jiff_core.specs.Date.{IsYmd}
use Rattle.jiff_core.specs.DateTime.{civil_nanos}
use Rattle.jiff_core.specs.Time.{IsTime, IsHms}
use Rattle.jiff_core.specs.Timestamp.{IsTimestampNanos, nanos_of_seconds}
use Rattle.jiff_core.proofs.SignedLemmas.{signed_arith}
use Rattle.jiff.specs.Types.{DateTime}
use Rattle.time_table.specs.Parts.{AreWritten}
use Rattle.time_table.specs.Shown.{Shows}
use Rattle.time_table.proofs.ShownLemmas.{months_alike, shown_at}

-- what exists can be written
pub civil_is_written : (civil : Civil) → IsCivil civil → AreWritten civil
civil_is_written civil exists =
    let long = month_days-le civil.year civil.month in
    (omega arith, omega arith, omega arith, omega arith, omega arith, omega arith)

-- the same date and time are the same civil second
pub same_civil : (civil other : Civil) → IsSame civil other → civil ≡ other
same_civil civil other same =
    let parts :
    (λ (c : Civil). c) (record {
      year = civil.year;
      month = civil.month;
      day = civil.day;
      hour = civil.hour;
      minute = civil.minute;
      second = civil.second;
    }) ≡ record {
      year = other.year;
      month = other.month;
      day = other.day;
      hour = other.hour;
      minute = other.minute;
      second = other.second;
    } = cc in
    parts

-- a moment that is given for a civil second exactly where it exists is that of its text
pub time_text_read : (read : Option ℕ) (text : List ℕ) (civil : Civil) →
    SomeIff read (IsCivil civil) (moment_of civil) → text ≡ civil_text civil →
    IfSome read (λ moment. IsTimeText text moment)
time_text_read None text civil given same = tt
time_text_read (Some moment) text civil given same = (civil, given.0, same, given.1)

-- the numbers with their signs are those of the civil second
pub record AreSigned (civil : Civil) (year month day hour minute second : ℤ) : Type 0 where
  pub year_is : year ≡ pos civil.year
  pub month_is : month ≡ pos civil.month
  pub day_is : day ≡ pos civil.day
  pub hour_is : hour ≡ pos civil.hour
  pub minute_is : minute ≡ pos civil.minute
  pub second_is : second ≡ pos civil.second

-- where `jiff` has the date and the time, the civil second exists
exists_in_jiff : (civil : Civil) (year month day hour minute second : ℤ) →
    AreSigned civil year month day hour minute second → 1970 ≤ civil.year → civil.year ≤ 9998 →
    IsDate year month day × IsTime hour minute second (pos 0) → IsCivil civil
exists_in_jiff civil year month day hour minute second signed low high found =
    let long = months_alike civil.year civil.month in
    let date = rw (signed.year_is, signed.month_is, signed.day_is) at found.0 in
    let time = rw (signed.hour_is, signed.minute_is, signed.second_is) at found.1 in
    record {
      first_year = low;
      last_year = high;
      first_month = omega (arith, signed_arith, date.1);
      last_month = omega (arith, signed_arith, date.1);
      first_day = omega (arith, signed_arith, date.2);
      last_day = omega (arith, signed_arith, date.2);
      hour = omega (arith, signed_arith, time.0);
      minute = omega (arith, signed_arith, time.1);
      second = omega (arith, signed_arith, time.2);
    }

-- what `jiff` makes of them shows the civil second
jiff_shows : (civil : Civil) (year month day hour minute second : ℤ) (shown : DateTime) →
    AreSigned civil year month day hour minute second →
    IsYmd year month day shown.date × IsHms hour minute second (pos 0) shown.time →
    Shows civil shown
jiff_shows civil year month day hour minute second shown signed made =
    let month_same : pos shown.date.month ≡ pos civil.month = made.0.1 ∙ signed.month_is in
    let day_same : pos shown.date.day ≡ pos civil.day = made.0.2 ∙ signed.day_is in
    let hour_same : pos shown.time.hour ≡ pos civil.hour = made.1.0 ∙ signed.hour_is in
    let minute_same : pos shown.time.minute ≡ pos civil.minute = made.1.1 ∙ signed.minute_is in
    let second_same : pos shown.time.second ≡ pos civil.second = made.1.2 ∙ signed.second_is in
    let no_fraction : pos shown.time.subsec_nanosecond ≡ pos 0 = made.1.3 in
    (made.0.0 ∙ signed.year_is, cc, cc, cc, cc, cc, cc)

-- a moment that is given exactly up to the last is given exactly where its civil second exists
pub given_for_civil : (read : Option ℕ) (civil : Civil) (moment : ℕ) → IsCivil civil →
    moment ≡ moment_of civil → SomeIff read (IsMoment moment) moment →
    SomeIff read (IsCivil civil) (moment_of civil)
given_for_civil None civil moment exists here given =
    absurd (given (omega (arith, moment_of-le civil exists)))
given_for_civil (Some found) civil moment exists here given = (exists, given.1 ∙ here)

-- a year that is not negative is itself, when it is cast
pub cast_year : (z : ℤ) (year : ℕ) → z ≡ pos year → year ≤ 9998 →
    nat_abs (to_z w16 (of_z w16 z)) ≡ year
cast_year z year is low = rw is (omega (arith, ints))

-- and it can be cast
pub year_can_be_cast : (z : ℤ) (year : ℕ) → z ≡ pos year → year ≤ 9998 →
    T (non_neg (to_z w16 (of_z w16 z))) × Fits w16 (nat_abs (to_z w16 (of_z w16 z)))
year_can_be_cast z year is low = rw is (search rules)

-- a part below 128 is itself, when it is cast
pub cast_part : (z : ℤ) (shown part : ℕ) → z ≡ pos shown → shown ≡ part → part < 128 →
    nat_abs (to_z w8 (of_z w8 z)) ≡ part
cast_part z shown part is same low = rw (is, same) (omega (arith, ints))

-- parts that are written keep their values as signed numbers
signed_parts : (civil : Civil) → AreWritten civil →
    AreSigned civil (to_z w16 civil.year) (to_z w8 civil.month) (to_z w8 civil.day)
    (to_z w8 civil.hour) (to_z w8 civil.minute) (to_z w8 civil.second)
signed_parts civil written = record {
  year_is = omega (arith, ints);
  month_is = omega (arith, ints);
  day_is = omega (arith, ints);
  hour_is = omega (arith, ints);
  minute_is = omega (arith, ints);
  second_is = omega (arith, ints);
}

-- A civil second that can be written and for which `jiff` has a datetime exists, and the datetime
-- lies at its moment.
pub datetime_of_written : (civil : Civil) (shown : DateTime) → AreWritten civil →
    1970 ≤ civil.year → civil.year ≤ 9998 →
    IsDate (to_z w16 civil.year) (to_z w8 civil.month) (to_z w8 civil.day)
    × IsTime (to_z w8 civil.hour) (to_z w8 civil.minute) (to_z w8 civil.second) (pos 0) →
    IsYmd (to_z w16 civil.year) (to_z w8 civil.month) (to_z w8 civil.day) shown.date
    × IsHms (to_z w8 civil.hour) (to_z w8 civil.minute) (to_z w8 civil.second) (pos 0) shown.time →
    IsCivil civil × (civil_nanos shown ≡ pos (moment_of civil * 1_000_000_000))
datetime_of_written civil shown written low high found made =
    let signed = signed_parts civil written in
    let exists = exists_in_jiff civil _ _ _ _ _ _ signed low high found in
    (exists, shown_at civil shown exists (jiff_shows civil _ _ _ _ _ _ shown signed made))

-- its instant is one of those that `jiff` has
pub instant_in_range : (civil : Civil) (nanos : ℤ) → IsCivil civil →
    nanos ≡ pos (moment_of civil * 1_000_000_000) →
    IsTimestampNanos (nanos -ℤ nanos_of_seconds (pos 0))
instant_in_range civil nanos exists here =
    let low = moment_of-le civil exists in
    rw here (omega (arith, signed_arith), omega (arith, signed_arith))

-- the whole seconds of the instant are the moment
pub second_of_instant : (civil : Civil) (nanos instant second : ℤ) →
    nanos ≡ pos (moment_of civil * 1_000_000_000) → instant ≡ nanos -ℤ nanos_of_seconds (pos 0) →
    second ≡ int_div instant (pos 1_000_000_000) → second ≡ pos (moment_of civil)
second_of_instant civil nanos instant second here at whole =
    let plain : instant ≡ pos (moment_of civil * 1_000_000_000) = omega (arith, signed_arith) in
    let back : moment_of civil * 1_000_000_000 / 1_000_000_000 ≡ moment_of civil = omega arith in
    whole ∙ rw (plain, back) refl

-- a moment is itself, when it is cast
pub cast_moment : (z : ℤ) (civil : Civil) → IsCivil civil → z ≡ pos (moment_of civil) →
    nat_abs (to_z w64 (of_z w64 z)) ≡ moment_of civil
cast_moment z civil exists is =
    let low = moment_of-le civil exists in
    rw is (omega (arith, ints))

-- and it can be cast
pub moment_can_be_cast : (z : ℤ) (civil : Civil) → IsCivil civil → z ≡ pos (moment_of civil) →
    T (non_neg (to_z w64 (of_z w64 z))) × Fits w64 (nat_abs (to_z w64 (of_z w64 z)))
moment_can_be_cast z civil exists is =
    let low = moment_of-le civil exists in
    rw is (search rules)
