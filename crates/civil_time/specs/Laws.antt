-- The laws of texts and moments, each proved in src/laws.rt.
use Rattle.std.specs.Prelude.{◌≡◌, ℕ, ◌≤◌, List, length}
use Rattle.std.specs.List.{All}
use Rattle.site_ids.specs.Moment.{IsMoment}
use Rattle.civil_time.specs.TimeText.{time_text, IsTimeText}

-- each moment up to the last has its text
abbrev pub EveryMomentHasItsText : Type 0
EveryMomentHasItsText = (moment : ℕ) → IsMoment moment → IsTimeText (time_text moment) moment

-- what has a text is a moment
abbrev pub OnlyMomentsHaveTexts : Type 0
OnlyMomentsHaveTexts = (text : List ℕ) (moment : ℕ) → IsTimeText text moment → IsMoment moment

-- a moment has one text
abbrev pub OneText : Type 0
OneText =
    (text other : List ℕ) (moment : ℕ) → IsTimeText text moment → IsTimeText other moment →
    text ≡ other

-- a text is that of one moment
abbrev pub OneMoment : Type 0
OneMoment =
    (text : List ℕ) (moment other : ℕ) → IsTimeText text moment → IsTimeText text other →
    moment ≡ other

-- each text has twenty bytes
abbrev pub TwentyBytes : Type 0
TwentyBytes = (text : List ℕ) (moment : ℕ) → IsTimeText text moment → length text ≡ 20

-- a byte of ASCII from `-` to `Z`: no quotation mark, no backslash and no control character
abbrev pub IsPlain : ℕ → Type 0
IsPlain byte = (45 ≤ byte) × (byte ≤ 90)

-- each byte of a text is plain, so that the text stands in JSON as it is
abbrev pub PlainBytes : Type 0
PlainBytes = (text : List ℕ) (moment : ℕ) → IsTimeText text moment → All IsPlain text
