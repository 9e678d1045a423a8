-- The bytes that were read are a text exactly where they are UTF-8.
use Rattle.std.proofs.Common.{◌∙◌}
use Rattle.content_codec.specs.Fields.{text_at}
use Rattle.content_codec.proofs.Texts.{text_is_kept, no_text_is_kept}
use Rattle.content_codec.proofs.reader.Reader.text.Goals as goal

pub returns-in_default : goal.returns-in_default
unfolding text_at
returns-in_default c =
    no_text_is_kept _ c.in_ok-bytes.field-0.now c.bytes.new.self
    (rw c.in_ok-length.ensures c.in_ok-bytes.ensures.value) c.in_default.ensures.cases.0

pub returns : goal.returns
unfolding text_at
returns c =
    text_is_kept _ c.in_ok-bytes.field-0.now c.bytes.new.self c.from_string.result
    (rw c.in_ok-length.ensures c.in_ok-bytes.ensures.value) c.in-Ok.ensures.cases.1
    (c.from_string.ensures ∙ c.in_ok-from_str.ensures.ok ∙ c.in-Ok.ensures.cases.0)
