-- The parts of a civil second, and where they stand in a text.
use Rattle.std.specs.Prelude.{◌≡◌, ℕ, ◌<◌, List, length, slice_index}
use Rattle.civil_time.specs.Civil.{Civil}
use Rattle.time_table.specs.declared.parts.Parts.{Parts}

-- the civil second that has these parts
abbrev pub civil_of : Parts → Civil
civil_of parts = record {
  year = parts.year;
  month = parts.month;
  day = parts.day;
  hour = parts.hour;
  minute = parts.minute;
  second = parts.second;
}

-- the parts can be written: the year in four digits, and each other in two
abbrev pub AreWritten : Civil → Type 0
AreWritten civil =
    (civil.year < 10_000) × (civil.month < 100) × (civil.day < 100) × (civil.hour < 100)
    × (civil.minute < 100) × (civil.second < 100)

-- the text has the length of a time's text, and the marks between its digits, as in
-- `0000-00-00T00:00:00Z`
abbrev pub HasMarks : List ℕ → Type 0
HasMarks text =
    (length text ≡ 20) × (slice_index text 4 ≡ 45) × (slice_index text 7 ≡ 45)
    × (slice_index text 10 ≡ 84) × (slice_index text 13 ≡ 58) × (slice_index text 16 ≡ 58)
    × (slice_index text 19 ≡ 90)
