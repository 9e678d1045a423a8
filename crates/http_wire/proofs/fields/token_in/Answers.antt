-- The word before the spaces is as long as `Bearer`.
use Rattle.std.proofs.Common.{◌≡◌, ◌∙◌, ℕ, List, None, true, false, cond, sym, ap, min, length, take, drop, arith}
use Rattle.std.proofs.lemmas.List.{take_min, drop_min, take_rest}
use Rattle.http_model.specs.declared.words.TheConstants.{BEARER}
use Rattle.http_model.specs.Fields.{is_same_word, token_behind, token_in}
use Rattle.http_wire.proofs.fields.token_in.Goals as goal

-- the first six bytes, or all where there are fewer
take_as : (value : List ℕ) (k : ℕ) → k ≡ min (length value) 6 → take k value ≡ take 6 value
take_as value k is =
    let same : k ≡ min 6 (length value) = omega arith in
    ap (λ m. take m value) same ∙ take_min 6 value

-- the bytes after them
drop_as : (value : List ℕ) (k : ℕ) → k ≡ min (length value) 6 → drop k value ≡ drop 6 value
drop_as value k is =
    let same : k ≡ min 6 (length value) = omega arith in
    ap (λ m. drop m value) same ∙ drop_min 6 value

pub returns-then-same_word : goal.returns-then-same_word
unfolding token_in
returns-then-same_word c =
    let value = c.args.value.now in let k = c.min-end.result in
    let word : is_same_word (take 6 value) BEARER.now ≡ true =
    ap (λ x. is_same_word x BEARER.now) (sym (take_as value k c.min-end.ensures))
    ∙ sym c.if-same_word.ensures in
    c.token_behind.ensures
    ∙ (ap token_behind (take_rest value k ∙ drop_as value k c.min-end.ensures)
    ∙ sym (ap (λ t. cond t (token_behind (drop 6 value)) None) word))

pub returns-else-same_word : goal.returns-else-same_word
unfolding token_in
returns-else-same_word c =
    let value = c.args.value.now in let k = c.min-end.result in
    let word : is_same_word (take 6 value) BEARER.now ≡ false =
    ap (λ x. is_same_word x BEARER.now) (sym (take_as value k c.min-end.ensures))
    ∙ sym c.if-same_word.ensures in
    sym (ap (λ t. cond t (token_behind (drop 6 value)) None) word)
