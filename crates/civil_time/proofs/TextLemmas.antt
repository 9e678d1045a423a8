-- Texts and moments belong together one by one.
use Rattle.std.proofs.Common.{◌≡◌, ℕ, ◌/◌, ◌%◌, ◌<◌, ◌≤◌, ◌∙◌, sym, ap, take, drop, refl, arith}
use Rattle.std.proofs.lemmas.Bool.Decides.{nat_tests}
use Rattle.civil_time.specs.Calendar.{month_days}
use Rattle.civil_time.specs.Civil.{Civil, IsCivil, moment_of, civil_text, digit, two_digits, four_digits}
use Rattle.civil_time.specs.TimeText.{civil_at, time_text, IsTimeText}
use Rattle.civil_time.specs.Laws.{EveryMomentHasItsText, OnlyMomentsHaveTexts, OneText, OneMoment}
use Rattle.civil_time.proofs.CivilLemmas.{IsSame, civil_at_right, moment_of-le, one_civil}

-- each moment up to the last has its text
pub moment_has_text : EveryMomentHasItsText
unfolding time_text
moment_has_text moment low =
    let here = civil_at_right moment low in
    (civil_at moment, here.0, refl, sym here.1)

-- what has a text is a moment
pub text_has_moment : OnlyMomentsHaveTexts
text_has_moment text moment told = rw told.3 (moment_of-le told.0 told.1)

-- the same date and time have the same text
same_text : (civil other : Civil) → IsSame civil other → civil_text civil ≡ civil_text other
same_text civil other same = cc

-- the same date and time lie at the same moment
same_moment : (civil other : Civil) → IsSame civil other → moment_of civil ≡ moment_of other
same_moment civil other same = cc

-- a moment has one text
pub moment_has_one_text : OneText
moment_has_one_text text other moment told again =
    let same = one_civil told.0 again.0 told.1 again.1 (sym told.3 ∙ again.3) in
    told.2 ∙ same_text told.0 again.0 same ∙ sym again.2

-- four digits tell a number below 10,000
four_digits_tell : (m n : ℕ) → m < 10_000 → n < 10_000 → four_digits m ≡ four_digits n → m ≡ n
four_digits_tell m n low other_low same =
    let thousands : digit (m / 1000) ≡ digit (n / 1000) = cc in
    let hundreds : digit (m / 100 % 10) ≡ digit (n / 100 % 10) = cc in
    let tens : digit (m / 10 % 10) ≡ digit (n / 10 % 10) = cc in
    let ones : digit (m % 10) ≡ digit (n % 10) = cc in
    omega arith

-- two digits tell a number below 100
two_digits_tell : (m n : ℕ) → m < 100 → n < 100 → two_digits m ≡ two_digits n → m ≡ n
two_digits_tell m n low other_low same =
    let tens : digit (m / 10) ≡ digit (n / 10) = cc in
    let ones : digit (m % 10) ≡ digit (n % 10) = cc in
    omega arith

-- each part of a text is that of the same text
same_parts : (civil other : Civil) → civil_text civil ≡ civil_text other →
    (four_digits civil.year ≡ four_digits other.year)
    × (two_digits civil.month ≡ two_digits other.month)
    × (two_digits civil.day ≡ two_digits other.day)
    × (two_digits civil.hour ≡ two_digits other.hour)
    × (two_digits civil.minute ≡ two_digits other.minute)
    × (two_digits civil.second ≡ two_digits other.second)
same_parts civil other same = (
  ap (take 4) same,
  ap (λ text. take 2 (drop 5 text)) same,
  ap (λ text. take 2 (drop 8 text)) same,
  ap (λ text. take 2 (drop 11 text)) same,
  ap (λ text. take 2 (drop 14 text)) same,
  ap (λ text. take 2 (drop 17 text)) same,
)

-- no month has more than 31 days
pub month_days-le : (year month : ℕ) → month_days year month ≤ 31
month_days-le year month = grind (arith, nat_tests)

-- a text tells each part of the date and the time
pub text_tells : (civil other : Civil) → IsCivil civil → IsCivil other →
    civil_text civil ≡ civil_text other → IsSame civil other
text_tells civil other exists other_exists same =
    let parts = same_parts civil other same in
    let long = month_days-le civil.year civil.month in
    let other_long = month_days-le other.year other.month in
    record {
      year = four_digits_tell civil.year other.year (omega arith) (omega arith) parts.0;
      month = two_digits_tell civil.month other.month (omega arith) (omega arith) parts.1;
      day = two_digits_tell civil.day other.day (omega arith) (omega arith) parts.2;
      hour = two_digits_tell civil.hour other.hour (omega arith) (omega arith) parts.3;
      minute = two_digits_tell civil.minute other.minute (omega arith) (omega arith) parts.4;
      second = two_digits_tell civil.second other.second (omega arith) (omega arith) parts.5;
    }

-- a text is that of one moment
pub text_has_one_moment : OneMoment
text_has_one_moment text moment other told again =
    let same = text_tells told.0 again.0 told.1 again.1 (sym told.2 ∙ again.2) in
    told.3 ∙ same_moment told.0 again.0 same ∙ sym again.3

-- the text of an existing civil second is that of its moment
pub civil_text-time_text : (civil : Civil) (moment : ℕ) → IsCivil civil → moment_of civil ≡ moment →
    civil_text civil ≡ time_text moment
civil_text-time_text civil moment exists here =
    let told : IsTimeText (civil_text civil) moment = (civil, exists, refl, sym here) in
    moment_has_one_text (civil_text civil) (time_text moment) moment told
    (moment_has_text moment (text_has_moment (civil_text civil) moment told))
