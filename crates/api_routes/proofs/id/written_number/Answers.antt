use Rattle.std.proofs.Common.{◌≡◌, ◌+◌, ◌*◌, ◌&&◌, min, take, get_or, arith, sym, ap, ◌∙◌}
use Rattle.std.specs.Char.{is_ascii_digit, digit_value}
use Rattle.std.specs.Str.Parse.{digits_value}
use Rattle.std.proofs.lemmas.Bool.Decides.{nat_tests}
use Rattle.std.proofs.lemmas.Int.Digits.{digits_value_more}
use Rattle.std.proofs.lemmas.List.Folds.{list_all_more}
use Rattle.api_routes.proofs.CallLemmas.{capped-more}
use Rattle.api_routes.proofs.id.written_number.Goals as goal

pub loop-b-preserved : goal.loop-b-preserved
loop-b-preserved c =
    let text = c.args.text.now in let i = c.loop-b.b-index in
    let digit : digit_value (get_or text i 0) ≡ c.from.result = grind (arith, nat_tests) in
    let more = digits_value_more 10 text i c.loop-b-test.true in
    record {
      capped =
          capped-more (digits_value 10 (take i text)) c.loop-b.number c.from.result
          c.min-number.result
          c.loop-b.invariant.capped c.min-number.ensures
          ∙ ap (λ n. min n 1000001)
          (sym (more ∙ ap (λ d. digits_value 10 (take i text) * 10 + d) digit));
      digits =
          list_all_more is_ascii_digit text i 0 c.loop-b-test.true
          ∙ (λ k. c.loop-b.invariant.digits k && sym c.if-not-is_ascii_digit.ensures.value k);
    }
