-- The bytes of a text: how many there are, and that each is plain.
use Rattle.std.proofs.Common.{ℕ, ◌/◌, ◌%◌, ◌<◌, List, [], ◌∷◌, ◌++◌, length, ap, arith}
use Rattle.std.specs.List.{All, AllByRecursion as ByRecursion}
use Rattle.std.proofs.lemmas.List.Elements.{All-from_recursion, All-same}
use Rattle.civil_time.specs.Civil.{Civil, IsCivil, civil_text, digit, two_digits, four_digits}
use Rattle.civil_time.specs.Laws.{TwentyBytes, IsPlain, PlainBytes}
use Rattle.civil_time.proofs.TextLemmas.{month_days-le}

-- each text has twenty bytes
pub text_has_twenty_bytes : TwentyBytes
text_has_twenty_bytes text moment told = ap (λ (bytes : List ℕ). length bytes) told.2

-- the code of a digit is plain
digit_is_plain : (n : ℕ) → n < 10 → IsPlain (digit n)
digit_is_plain n low = (omega arith, omega arith)

-- two digits are plain, and what follows them
two_are_plain : (n : ℕ) (rest : List ℕ) → n < 100 → ByRecursion IsPlain rest →
    ByRecursion IsPlain (two_digits n ++ rest)
two_are_plain n rest low plain =
    (digit_is_plain (n / 10) (omega arith), (digit_is_plain (n % 10) (omega arith), plain))

-- four digits are plain, and what follows them
four_are_plain : (n : ℕ) (rest : List ℕ) → n < 10_000 → ByRecursion IsPlain rest →
    ByRecursion IsPlain (four_digits n ++ rest)
four_are_plain n rest low plain = (
  digit_is_plain (n / 1000) (omega arith),
  (
    digit_is_plain (n / 100 % 10) (omega arith),
    (digit_is_plain (n / 10 % 10) (omega arith), (digit_is_plain (n % 10) (omega arith), plain)),
  ),
)

-- the text of an existing civil second is plain
civil_text_is_plain : (civil : Civil) → IsCivil civil → All IsPlain (civil_text civil)
civil_text_is_plain civil exists =
    let long = month_days-le civil.year civil.month in
    let dash : IsPlain 45 = (omega arith, omega arith) in
    let colon : IsPlain 58 = (omega arith, omega arith) in
    let letter_t : IsPlain 84 = (omega arith, omega arith) in
    let letter_z : IsPlain 90 = (omega arith, omega arith) in
    let end : List ℕ = 90 ∷ [] in
    let seconds : List ℕ = 58 ∷ two_digits civil.second ++ end in
    let minutes : List ℕ = 58 ∷ two_digits civil.minute ++ seconds in
    let hours : List ℕ = 84 ∷ two_digits civil.hour ++ minutes in
    let days : List ℕ = 45 ∷ two_digits civil.day ++ hours in
    let months : List ℕ = 45 ∷ two_digits civil.month ++ days in
    let end_plain : ByRecursion IsPlain end = (letter_z, tt) in
    let seconds_plain : ByRecursion IsPlain seconds =
    (colon, two_are_plain civil.second end (omega arith) end_plain) in
    let minutes_plain : ByRecursion IsPlain minutes =
    (colon, two_are_plain civil.minute seconds (omega arith) seconds_plain) in
    let hours_plain : ByRecursion IsPlain hours =
    (letter_t, two_are_plain civil.hour minutes (omega arith) minutes_plain) in
    let days_plain : ByRecursion IsPlain days =
    (dash, two_are_plain civil.day hours (omega arith) hours_plain) in
    let months_plain : ByRecursion IsPlain months =
    (dash, two_are_plain civil.month days (omega arith) days_plain) in
    All-from_recursion IsPlain (civil_text civil)
    (four_are_plain civil.year months (omega arith) months_plain)

-- each byte of a text is plain
pub text_is_plain : PlainBytes
text_is_plain text moment told =
    All-same IsPlain text (civil_text told.0) told.2 (civil_text_is_plain told.0 told.1)
