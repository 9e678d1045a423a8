-- Two words or more: the first tells an option with the second, or by itself.
use Rattle.std.proofs.Common.{sym, ap, ◌∙◌}
use Rattle.pagetree_session.specs.Words.{with_at, with_step, with_joined, number_in, options_after}
use Rattle.pagetree_session.proofs.WordLemmas.{after_two, two_of, one_of, given_at, given_step, given_joined}
use Rattle.pagetree_session.proofs.words.+options_after.Goals as goal

pub returns-then-is_word : goal.returns-then-is_word
returns-then-is_word t c =
    let words = c.args.words.now in
    let value = c.as_bytes-then-is_word.ensures.value in
    let told = sym (c.with_at.ensures ∙ (ap (with_at c.args.options) (c.number_in.ensures
    ∙ ap number_in value))) ∙ c.in-Some.is in
    c.options_after.ensures
    ∙ sym (ap (options_after c.args.options) (two_of words c.word-item-2.result
    c.value-item.result c.in-len2-up.len_at_least c.word-item-2.is c.value-item.is)
    ∙ given_at c.args.options c.in-Some.more c.word-item-2.result c.value-item.result
    (after_two words) (sym c.is_word.ensures ∙ c.if-is_word.true) told)

pub returns-then-is_word-2 : goal.returns-then-is_word-2
returns-then-is_word-2 t c =
    let words = c.args.words.now in
    let value = c.as_bytes-then-is_word-2.ensures.value in
    let told = sym (c.with_step.ensures ∙ (ap (with_step c.args.options)
    (c.number_in-then-is_word-2.ensures ∙ ap number_in value))) ∙ c.in-Some-with_step.is in
    c.options_after-then-is_word-2.ensures
    ∙ sym (ap (options_after c.args.options) (two_of words c.word-item-2.result
    c.value-item.result c.in-len2-up.len_at_least c.word-item-2.is c.value-item.is)
    ∙ given_step c.args.options c.in-Some-with_step.more c.word-item-2.result c.value-item.result
    (after_two words) (sym c.is_word.ensures ∙ c.if-is_word.false)
    (sym c.is_word-in-len2-up.ensures ∙ c.if-is_word-2.true) told)

pub returns-in-Some-with_joined : goal.returns-in-Some-with_joined
returns-in-Some-with_joined t c =
    let words = c.args.words.now in
    let word = c.as_bytes-in-len2-up.ensures.value in
    let told = sym (c.with_joined-in-len2-up.ensures
    ∙ ap (with_joined c.args.options) word) ∙ c.in-Some-with_joined.is in
    c.options_after-in-len2-up.ensures
    ∙ (ap (options_after c.in-Some-with_joined.more) (one_of words c.value-item.result
    c.in-len2-up.len_at_least c.value-item.is)
    ∙ sym (ap (options_after c.args.options) (two_of words c.word-item-2.result
    c.value-item.result c.in-len2-up.len_at_least c.word-item-2.is c.value-item.is)
    ∙ given_joined c.args.options c.in-Some-with_joined.more c.word-item-2.result
    c.value-item.result (after_two words) (sym c.is_word.ensures ∙ c.if-is_word.false)
    (sym c.is_word-in-len2-up.ensures ∙ c.if-is_word-2.false) told))
