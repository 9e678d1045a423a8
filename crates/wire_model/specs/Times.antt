-- The moments in bodies: each is null, or the text of a moment as `civil_time` has it.
use Rattle.std.specs.Prelude.{ℕ, ◌+◌, ◌-◌, ◌*◌, ◌&&◌, nat_le, List, slice_index, bytes_eq, Option, Some, None, option_map, option_and_then}
use Rattle.std.specs.Bool.{then_some}
use Rattle.serde_json.specs.Data.{Data, null}
use Rattle.serde_json.specs.Find.{get, as_str}
use Rattle.site_ids.specs.declared.moment.TheConstants.{LAST_MOMENT}
use Rattle.civil_time.specs.Civil.{Civil, moment_of}
use Rattle.civil_time.specs.TimeText.{time_text}

-- the number that the decimal digit at this place of a text writes
abbrev pub digit_at : List ℕ → ℕ → ℕ
digit_at text place = slice_index text place - 48

-- the number that the two digits from this place on write
abbrev pub two_digits_at : List ℕ → ℕ → ℕ
two_digits_at text place = digit_at text place * 10 + digit_at text (place + 1)

-- the civil second that the digits of a text of the form `YYYY-MM-DDTHH:MM:SSZ` write
abbrev pub civil_written : List ℕ → Civil
civil_written text =
    record {
      year = two_digits_at text 0 * 100 + two_digits_at text 2;
      month = two_digits_at text 5;
      day = two_digits_at text 8;
      hour = two_digits_at text 11;
      minute = two_digits_at text 14;
      second = two_digits_at text 17;
    }

-- the moment with this text, if there is one: that of the civil second that its digits write, if
-- the text is that moment's
unfoldable pub time_of : List ℕ → Option ℕ
time_of text =
    let moment = moment_of (civil_written text) in
    then_some (nat_le moment LAST_MOMENT && bytes_eq text (time_text moment)) moment

-- a moment that may be absent: null, or the text of a moment
abbrev pub time_or_none : Data → Option (Option ℕ)
time_or_none null = Some None
time_or_none value = option_map Some (option_and_then time_of (as_str value))

-- the moment, which may be absent, at the member of this name
abbrev pub time_at : List ℕ → Data → Option (Option ℕ)
time_at name value = option_and_then time_or_none (get name value)
