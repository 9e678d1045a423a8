-- A text is read as a moment exactly if it is that moment's text.
use Rattle.std.proofs.Common.{◌≡◌, ◌&&◌, ◌≤◌, ◌+◌, ◌-◌, ◌*◌, ◌/◌, ◌%◌, ℕ, Bool, true, false, nat_le, bytes_eq, List, Option, Some, None, refl, sym, ap, subst, ◌∙◌, arith}
use Rattle.std.specs.Prelude.{◌↔◌, IfSome, IsNone, option_map, option_and_then}
use Rattle.std.specs.Bool.{then_some}
use Rattle.std.proofs.lemmas.Bool.Decides.{nat_tests}
use Rattle.std.proofs.lemmas.Slice.Eq.{bytes_eq-Decides}
use Rattle.serde_json.specs.Data.{Data, null, boolean, number, string, array, object}
use Rattle.serde_json.specs.Find.{as_str}
use Rattle.site_ids.specs.Moment.{IsMoment}
use Rattle.site_ids.specs.declared.moment.TheConstants.{LAST_MOMENT}
use Rattle.civil_time.specs.Civil.{Civil, moment_of, civil_text}
use Rattle.civil_time.specs.TimeText.{time_text, IsTimeText}
use Rattle.civil_time.proofs.TextLemmas.{moment_has_text, text_has_moment, moment_has_one_text}
use Rattle.wire_model.specs.Times.{civil_written, time_of, time_or_none}

-- two digits of a number below 100 write it
two_written : (n : ℕ) → (48 + n / 10 - 48) * 10 + (48 + n % 10 - 48) ≡ n
two_written n = omega arith

-- four digits of a number below 10,000 write it
four_written : (n : ℕ) →
    ((48 + n / 1000 - 48) * 10 + (48 + n / 100 % 10 - 48)) * 100
    + ((48 + n / 10 % 10 - 48) * 10 + (48 + n % 10 - 48)) ≡ n
four_written n = omega arith

-- the digits of the text of a civil second write it
written_back : (civil : Civil) → civil_written (civil_text civil) ≡ civil
written_back civil =
    λ i. record {
      year = four_written civil.year i;
      month = two_written civil.month i;
      day = two_written civil.day i;
      hour = two_written civil.hour i;
      minute = two_written civil.minute i;
      second = two_written civil.second i;
    }

-- what is kept by a test is what it was, and the test holds
kept_by : (test : Bool) (n moment : ℕ) → then_some test n ≡ Some moment →
    (test ≡ true) × (n ≡ moment)
kept_by true n moment is = (refl, cc)
kept_by false n moment is = absurd (cc)

-- the test of a text that is read as a moment
read_by_test : (text : List ℕ) (moment : ℕ) →
    nat_le moment LAST_MOMENT && bytes_eq text (time_text moment) ≡ true → IsTimeText text moment
read_by_test text moment passes =
    let parts = both_hold (nat_le moment LAST_MOMENT) (bytes_eq text (time_text moment)) passes in
    let low : moment ≤ LAST_MOMENT = grind (arith, nat_tests, parts.0) in
    let same : text ≡ time_text moment = (bytes_eq-Decides text (time_text moment)).0 parts.1 in
    subst (λ bytes. IsTimeText bytes moment) (sym same) (moment_has_text moment low)
  where
    both_hold : (first second : Bool) → first && second ≡ true →
        (first ≡ true) × (second ≡ true)
    both_hold true second is = (refl, is)
    both_hold false second is = absurd (cc)

-- what is read as a moment is its text
pub read_is_text : (text : List ℕ) (moment : ℕ) → time_of text ≡ Some moment →
    IsTimeText text moment
unfolding time_of
read_is_text text moment is =
    let written = moment_of (civil_written text) in
    let kept = kept_by (nat_le written LAST_MOMENT && bytes_eq text (time_text written)) written
    moment is in
    subst (IsTimeText text) kept.1 (read_by_test text written kept.0)

-- the text of a moment is read as it
pub text_is_read : (text : List ℕ) (moment : ℕ) → IsTimeText text moment →
    time_of text ≡ Some moment
unfolding time_of
text_is_read text moment told =
    let written : moment_of (civil_written text) ≡ moment =
    ap (λ bytes. moment_of (civil_written bytes)) told.2
    ∙ ap moment_of (written_back told.0) ∙ sym told.3 in
    let low = text_has_moment text moment told in
    let within : nat_le moment LAST_MOMENT ≡ true = grind (arith, nat_tests, low) in
    let same : text ≡ time_text moment =
    moment_has_one_text text (time_text moment) moment told (moment_has_text moment low) in
    let equal : bytes_eq text (time_text moment) ≡ true =
    (bytes_eq-Decides text (time_text moment)).1 same in
    rw (written, within, equal) refl

-- a text is read as a moment exactly if it is that moment's text
pub times_are_texts : (text : List ℕ) (moment : ℕ) →
    (time_of text ≡ Some moment) ↔ IsTimeText text moment
times_are_texts text moment = (read_is_text text moment, text_is_read text moment)

-- what is found by a text is what is read of it, if it has the text, and if nothing is found only
-- where no moment has it
pub time_from_text : (text : List ℕ) (found : Option ℕ) →
    IfSome found (λ moment. IsTimeText text moment) →
    (IsNone found → (moment : ℕ) → IsTimeText text moment → ⊥) → found ≡ time_of text
time_from_text text (Some moment) has none = sym (text_is_read text moment has)
time_from_text text None has none = nothing (time_of text) refl
  where
    nothing : (read : Option ℕ) → time_of text ≡ read → None ≡ read
    nothing (Some moment) is = absurd (none refl moment (read_is_text text moment is))
    nothing None is = refl

-- a moment that may be absent is one
abbrev pub AreTimes : Option (Option ℕ) → Type 0
AreTimes found = IfSome found (λ moment. IfSome moment IsMoment)

-- what is read of a text is a moment
read_time : (text : List ℕ) (found : Option ℕ) → time_of text ≡ found →
    AreTimes (option_map Some found)
read_time text (Some moment) is = text_has_moment text moment (read_is_text text moment is)
read_time text None is = tt

-- what is read of a value that is a text is a moment
read_text : (text : Option (List ℕ)) → AreTimes (option_map Some (option_and_then time_of text))
read_text (Some text) = read_time text (time_of text) refl
read_text None = tt

-- what is read of a value is a moment, if there is one
read_value : (value : Data) → AreTimes (time_or_none value)
read_value null = tt
read_value (boolean truth) = read_text (as_str (boolean truth))
read_value (number n) = read_text (as_str (number n))
read_value (string text) = read_text (as_str (string text))
read_value (array items) = read_text (as_str (array items))
read_value (object members) = read_text (as_str (object members))

-- what a member is read as is a moment, if there is one
pub member_time : (found : Option Data) → AreTimes (option_and_then time_or_none found)
member_time (Some value) = read_value value
member_time None = tt
