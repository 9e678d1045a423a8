-- What a datetime of `jiff` shows.
use Rattle.std.specs.Prelude.{◌≡◌, pos}
use Rattle.jiff.specs.Types.{DateTime}
use Rattle.civil_time.specs.Civil.{Civil}

-- it shows the civil second, with no fraction
abbrev pub Shows : Civil → DateTime → Type 0
Shows civil shown =
    (shown.date.year ≡ pos civil.year) × (shown.date.month ≡ civil.month)
    × (shown.date.day ≡ civil.day) × (shown.time.hour ≡ civil.hour)
    × (shown.time.minute ≡ civil.minute) × (shown.time.second ≡ civil.second)
    × (shown.time.subsec_nanosecond ≡ 0)
