-- What a datetime of `jiff` shows, and the moment at which it shows it.
use Rattle.std.proofs.Common.{◌≡◌, ℕ, ◌*◌, ◌≤◌, ◌∙◌, sym, ap, refl, arith, ℤ, pos, ◌+ℤ◌, ◌*ℤ◌, to_z, w64}
use Rattle.std.proofs.lemmas.Int.{ints}
use Rattle.site_types.specs.Moment.{IsMoment}
use Rattle.jiff.specs.Types.{Date, Time, DateTime}
use Rattle.jiff_core.specs.Calendar as Jiff
use Rattle.jiff_core.specs.Date.{epoch_day}
use Rattle.jiff_core.specs.DateTime.{civil_nanos}
use Rattle.jiff_core.specs.Timestamp.{nanos_of_seconds}
use Rattle.jiff_core.proofs.SignedLemmas.{signed_arith}
use Rattle.jiff_core.proofs.DateLemmas.{epoch_day_injective}
use Rattle.jiff_core.proofs.DateTimeLemmas.{civil_nanos-parts, civil_nanos_injective, time_nanos_injective}
use Rattle.civil_time.specs.Calendar.{month_days, days_to_date}
use Rattle.civil_time.specs.Civil.{Civil, IsCivil, moment_of}
use Rattle.civil_time.specs.TimeText.{civil_at}
use Rattle.civil_time.proofs.CivilLemmas.{civil_at_right}
use Rattle.time_table.specs.Shown.{Shows}
use Rattle.time_table.proofs.CalendarLemmas.{days_agree}

-- a datetime that shows a civil second lies at its moment
pub shown_at : (civil : Civil) (shown : DateTime) → IsCivil civil → Shows civil shown →
    civil_nanos shown ≡ pos (moment_of civil * 1_000_000_000)
shown_at civil shown exists shows =
    let days : epoch_day shown.date ≡ pos (days_to_date civil.year civil.month civil.day) =
    rw (shows.0, shows.1, shows.2)
    (days_agree civil.year civil.month civil.day exists.first_year exists.first_month
    exists.first_day) in
    omega (arith, signed_arith, civil_nanos-parts shown, days)

-- the months of the two calendars are as long
pub months_alike : (year month : ℕ) → Jiff.days_in_month (pos year) month ≡ month_days year month
months_alike year month = refl

-- the date of an existing civil second, in `jiff`
date_of : (civil : Civil) → IsCivil civil → Date
date_of civil exists = record {
  year = pos civil.year;
  month = civil.month;
  day = civil.day;
  year_in = (omega (arith, signed_arith), omega (arith, signed_arith));
  month_in = (omega arith, omega arith);
  day_in = (omega arith, omega (arith, months_alike civil.year civil.month));
}

-- its time of day, in `jiff`
time_of : (civil : Civil) → IsCivil civil → Time
time_of civil exists = record {
  hour = civil.hour;
  minute = civil.minute;
  second = civil.second;
  subsec_nanosecond = 0;
  hour_in = omega arith;
  minute_in = omega arith;
  second_in = omega arith;
  subsec_in = omega arith;
}

-- the datetime that shows an existing civil second
datetime_of : (civil : Civil) → IsCivil civil → DateTime
datetime_of civil exists = record { date = date_of civil exists; time = time_of civil exists }

-- it shows it
datetime_of-shows : (civil : Civil) (exists : IsCivil civil) →
    Shows civil (datetime_of civil exists)
unfolding datetime_of date_of time_of
datetime_of-shows civil exists = (refl, refl, refl, refl, refl, refl, refl)

-- datetimes at the same nanosecond show the same
same_shown : (civil : Civil) (shown other : DateTime) → Shows civil other →
    civil_nanos shown ≡ civil_nanos other → Shows civil shown
same_shown civil shown other shows same =
    let parts = civil_nanos_injective shown other same in
    let dates = epoch_day_injective shown.date other.date parts.0 in
    let times = time_nanos_injective shown.time other.time parts.1 in (
      dates.0 ∙ shows.0,
      dates.1 ∙ shows.1,
      dates.2 ∙ shows.2,
      times.0 ∙ shows.3,
      times.1 ∙ shows.4,
      times.2 ∙ shows.5,
      times.3 ∙ shows.6,
    )

-- a datetime that lies at a moment shows the civil second of that moment
moment_shown : (shown : DateTime) (moment : ℕ) → moment ≤ 253_370_764_799 →
    civil_nanos shown ≡ pos (moment * 1_000_000_000) → Shows (civil_at moment) shown
moment_shown shown moment low here =
    let found = civil_at_right moment low in
    let other = datetime_of (civil_at moment) found.0 in
    let shows = datetime_of-shows (civil_at moment) found.0 in
    let there : civil_nanos other ≡ pos (moment * 1_000_000_000) =
    shown_at (civil_at moment) other found.0 shows ∙ ap (λ n. pos (n * 1_000_000_000)) found.1 in
    same_shown (civil_at moment) shown other shows (here ∙ sym there)

-- What `jiff` shows at the instant of a moment in UTC: the civil second of that moment, which
-- exists.
pub shown_at_moment : (moment seconds : ℕ) (instant : ℤ) (shown : DateTime) → seconds ≡ moment →
    IsMoment seconds → instant ≡ to_z w64 seconds *ℤ pos 1_000_000_000 →
    civil_nanos shown ≡ instant +ℤ nanos_of_seconds (pos 0) →
    Shows (civil_at moment) shown × IsCivil (civil_at moment)
shown_at_moment moment seconds instant shown same range at there =
    let low : moment ≤ 253_370_764_799 = omega arith in
    let here : civil_nanos shown ≡ pos (moment * 1_000_000_000) =
    omega (arith, ints, signed_arith) in
    (moment_shown shown moment low here, (civil_at_right moment low).0)
