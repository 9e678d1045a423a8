-- There are few texts, since each takes four bytes at least.
use Rattle.std.proofs.Common.{ℕ, List, OnOk, All, IsUtf8, subst, arith}
use Rattle.content_codec.proofs.Writing.{texts_take_bytes}
use Rattle.content_codec.proofs.writer.Writer.texts.Goals as goal

pub overflow_cast-len : goal.overflow_cast-len
overflow_cast-len c = omega (arith, texts_take_bytes c.args.texts.now)

pub returns-clause-are_texts : goal.returns-clause-are_texts
returns-clause-are_texts c =
    let P : List (List ℕ) → Type 0 = λ texts. OnOk c.each_text.result (All IsUtf8 texts) in
    subst P c.as_slice.ensures c.each_text.ensures.are_texts
