-- The digits are read one by one, and what is too large stays so.
use Rattle.std.proofs.Common.{◌≡◌, ◌+◌, ◌*◌, ◌<◌, ℕ, true, Some, None, cond, nat_lt, ◌&&◌, min, take, length, get_or, List, arith, sym, ap, ◌∙◌}
use Rattle.std.specs.List.{list_all}
use Rattle.std.specs.Char.{is_ascii_digit, digit_value}
use Rattle.std.specs.Str.Parse.{digits_value}
use Rattle.std.proofs.lemmas.Bool.Decides.{nat_tests}
use Rattle.std.proofs.lemmas.Int.Digits.{digits_value_more}
use Rattle.std.proofs.lemmas.List.{take_all}
use Rattle.std.proofs.lemmas.List.Folds.{list_all_more}
use Rattle.http_model.specs.Fields.{number_in}
use Rattle.http_wire.proofs.fields.read_number.Goals as goal

-- a number that is cut at the limit goes on as the whole number does
capped_more : (v n d m : ℕ) → n ≡ min v 262145 → m ≡ min (n * 10 + d) 262145 →
    m ≡ min (v * 10 + d) 262145
capped_more v n d m is next = omega arith

-- the digits that were read are a number
number_of_digits : (value : List ℕ) → 0 < length value → list_all is_ascii_digit value ≡ true →
    number_in value ≡ Some (digits_value 10 value)
number_of_digits value some all =
    let some' : nat_lt 0 (length value) ≡ true = grind (arith, nat_tests) in
    ap (λ t. cond (t && list_all is_ascii_digit value) (Some (digits_value 10 value)) None) some'
    ∙ ap (λ t. cond t (Some (digits_value 10 value)) None) all

pub loop-b-preserved : goal.loop-b-preserved
loop-b-preserved c =
    let value = c.args.value.now in let i = c.loop-b.b-index in
    let digit : digit_value (get_or value i 0) ≡ c.from.result = grind (arith, nat_tests) in
    let more = digits_value_more 10 value i c.loop-b-test.true in
    record {
      number =
          capped_more (digits_value 10 (take i value)) c.loop-b.n c.from.result c.min-n.result
          c.loop-b.invariant.number c.min-n.ensures
          ∙ ap (λ n. min n 262145)
          (sym (more ∙ ap (λ d. digits_value 10 (take i value) * 10 + d) digit));
      digits =
          list_all_more is_ascii_digit value i 0 c.loop-b-test.true
          ∙ (λ k. c.loop-b.invariant.digits k && sym c.if-not-is_ascii_digit.ensures.value k);
    }

pub returns-then-n-gt-MAX_BODY : goal.returns-then-n-gt-MAX_BODY
returns-then-n-gt-MAX_BODY c =
    let value = c.args.value.now in
    let all = take_all c.loop-b.b-index value c.loop-b-test.false in
    let some : 0 < length value = grind (arith, nat_tests) in
    let digits : list_all is_ascii_digit value ≡ true =
    ap (list_all is_ascii_digit) (sym all) ∙ c.loop-b.invariant.digits in
    let number : c.loop-b.n ≡ min (digits_value 10 value) 262145 =
    c.loop-b.invariant.number ∙ ap (λ xs. min (digits_value 10 xs) 262145) all in
    (digits_value 10 value, number_of_digits value some digits, omega arith)
