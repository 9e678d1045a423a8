-- The digits are read one by one, and twelve of them write no more than the greatest number.
use Rattle.std.proofs.Common.{◌≡◌, ◌+◌, ◌*◌, ◌&&◌, true, get_or, take, min, sym, ap, ◌∙◌, arith}
use Rattle.std.specs.List.{list_all}
use Rattle.std.specs.Char.{is_ascii_digit, digit_value}
use Rattle.std.specs.Str.Parse.{digits_value}
use Rattle.std.proofs.lemmas.Bool.Decides.{nat_tests}
use Rattle.std.proofs.lemmas.Int.Digits.{digits_value_more}
use Rattle.std.proofs.lemmas.List.{take_all}
use Rattle.std.proofs.lemmas.List.Folds.{list_all_more}
use Rattle.pagetree_session.proofs.WordLemmas.{capped_more, number_of_digits}
use Rattle.pagetree_session.proofs.words.number_in.Goals as goal

pub loop-b-preserved : goal.loop-b-preserved
loop-b-preserved c =
    let word = c.args.word.now in let i = c.loop-b.b-index in
    let digit : digit_value (get_or word i 0) ≡ c.from.result = grind (arith, nat_tests) in
    let more = digits_value_more 10 word i c.loop-b-test.true in
    record {
      number =
          capped_more (digits_value 10 (take i word)) c.loop-b.n c.from.result c.min-n.result
          c.loop-b.invariant.number c.min-n.ensures
          ∙ ap (λ n. min n 999999999999)
          (sym (more ∙ ap (λ d. digits_value 10 (take i word) * 10 + d) digit));
      digits =
          list_all_more is_ascii_digit word i 0 c.loop-b-test.true
          ∙ (λ k. c.loop-b.invariant.digits k && sym c.if-not-is_ascii_digit.ensures.value k);
    }

pub returns : goal.returns
returns c =
    let word = c.args.word.now in
    let all = take_all c.loop-b.b-index word c.loop-b-test.false in
    let digits : list_all is_ascii_digit word ≡ true =
    ap (list_all is_ascii_digit) (sym all) ∙ c.loop-b.invariant.digits in
    let number : c.loop-b.n ≡ min (digits_value 10 word) 999999999999 =
    c.loop-b.invariant.number ∙ ap (λ xs. min (digits_value 10 xs) 999999999999) all in
    number_of_digits word c.loop-b.n
    (grind (arith, nat_tests, c.is_empty.ensures, c.if-is_empty.false))
    c.if-word-gt-MAX_DIGITS.false digits number
