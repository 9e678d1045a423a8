-- The words of a command line: their numbers and their options.
use Rattle.std.proofs.Common.{◌≡◌, ◌<◌, ◌≤◌, ◌+◌, ◌-◌, ◌*◌, ◌&&◌, ℕ, Bool, true, false, min, List, [], ◌∷◌, length, take, drop, get_or, nat_le, Some, refl, sym, ap, arith}
use Rattle.std.specs.List.{list_all}
use Rattle.std.specs.Char.{is_ascii_digit, digit_value}
use Rattle.std.specs.Str.Parse.{digits_value, AllDigits}
use Rattle.std.proofs.lemmas.Bool.Decides.{nat_tests}
use Rattle.std.proofs.lemmas.Int.Digits.{digits_value-lt}
use Rattle.std.proofs.lemmas.List.{take_all}
use Rattle.std.proofs.Math.Nat.{pow-le-pow_right}
use Rattle.std.specs.Prelude.{bytes_eq}
use Rattle.pagetree_session.specs.declared.options.Options.{Options}
use Rattle.pagetree_session.specs.declared.words.TheConstants.{AT, STEP}
use Rattle.pagetree_session.specs.Words.{number_in, with_at, with_step, with_joined, options_after}

-- a number that is cut at the limit goes on as the whole number does
pub capped_more : (v n d m : ℕ) → n ≡ min v 999999999999 → m ≡ min (n * 10 + d) 999999999999 →
    m ≡ min (v * 10 + d) 999999999999
capped_more v n d m is next = omega arith

-- bytes that are digits are digits of a numeral
are_numeral : (word : List ℕ) → list_all is_ascii_digit word ≡ true → AllDigits 10 word
are_numeral [] all = tt
are_numeral (b ∷ word) all =
    both (is_ascii_digit b) (list_all is_ascii_digit word) refl all (are_numeral word)
  where
    both : (t u : Bool) → is_ascii_digit b ≡ t → t && u ≡ true → (u ≡ true → AllDigits 10 word) →
        (digit_value b < 10) × AllDigits 10 word
    both true u is and rest = (grind (arith, nat_tests), rest and)
    both false u is and rest = cc

-- twelve digits write no more than the greatest number
digits_are_few : (word : List ℕ) → list_all is_ascii_digit word ≡ true → length word ≤ 12 →
    digits_value 10 word ≤ 999999999999
digits_are_few word all few =
    let less = digits_value-lt 10 word (are_numeral word all) in
    let ten : 0 < 10 = omega arith in
    let bound = pow-le-pow_right {n = 10} ten few in
    omega arith

-- a word of 1 to 12 digits writes its number
pub number_of_digits : (word : List ℕ) (n : ℕ) → 0 < length word → length word ≤ 12 →
    list_all is_ascii_digit word ≡ true → n ≡ min (digits_value 10 word) 999999999999 →
    Some n ≡ number_in word
number_of_digits word n some few all is =
    let least : nat_le 1 (length word) ≡ true = grind (arith, nat_tests) in
    let most : nat_le (length word) 12 ≡ true = grind (arith, nat_tests) in
    let small = digits_are_few word all few in
    let same : n ≡ digits_value 10 word = omega arith in
    rw (least, most, all) (ap Some same)

-- the words behind the first two
abbrev pub after_two : List (List ℕ) → List (List ℕ)
after_two words = take (length words - 2) (drop 2 words)

-- two words or more are the first two and those behind them
pub two_of : (words : List (List ℕ)) (word value : List ℕ) → 2 ≤ length words →
    word ≡ get_or words 0 word → value ≡ get_or words 1 value →
    words ≡ word ∷ value ∷ after_two words
two_of [] word value two first second = absurd (omega arith)
two_of (w ∷ []) word value two first second = absurd (omega arith)
two_of (w ∷ v ∷ rest) word value two first second =
    let all = take_all (length rest) rest (omega arith) in
    let n : length (w ∷ v ∷ rest) - 2 ≡ length rest = omega arith in
    rw (first, second, n, all) refl

-- those behind the first are the second and those behind both
pub one_of : (words : List (List ℕ)) (value : List ℕ) → 2 ≤ length words →
    value ≡ get_or words 1 value →
    take (length words - 1) (drop 1 words) ≡ value ∷ after_two words
one_of [] value two second = absurd (omega arith)
one_of (w ∷ []) value two second = absurd (omega arith)
one_of (w ∷ v ∷ rest) value two second =
    let all = take_all (length rest) rest (omega arith) in
    let n : length (w ∷ v ∷ rest) - 2 ≡ length rest = omega arith in
    let m : length (w ∷ v ∷ rest) - 1 ≡ length (v ∷ rest) = omega arith in
    rw (n, m, all) (ap (λ x. x ∷ rest) (sym second))

module _ (options more : Options) (word value : List ℕ) (rest : List (List ℕ)) where
  -- the first moment is told by two words
  pub given_at : bytes_eq word AT.now ≡ true → with_at options (number_in value) ≡ Some more →
      options_after options (word ∷ value ∷ rest) ≡ options_after more rest
  given_at is told = rw (is, told) refl

  -- the seconds between moments are told by two words
  pub given_step : bytes_eq word AT.now ≡ false → bytes_eq word STEP.now ≡ true →
      with_step options (number_in value) ≡ Some more →
      options_after options (word ∷ value ∷ rest) ≡ options_after more rest
  given_step other is told = rw (other, is, told) refl

  -- one of them is told by one word
  pub given_joined : bytes_eq word AT.now ≡ false → bytes_eq word STEP.now ≡ false →
      with_joined options word ≡ Some more →
      options_after options (word ∷ value ∷ rest) ≡ options_after more (value ∷ rest)
  given_joined other another told = rw (other, another, told) refl
