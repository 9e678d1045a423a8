-- By whether the field is a `Connection`.
use Rattle.std.proofs.Common.{◌∙◌, sym, ap}
use Rattle.httparse.specs.Spans.{header_bytes}
use Rattle.http_model.specs.declared.words.TheConstants.{CONNECTION_NAME}
use Rattle.http_model.specs.Fields.{is_same_word, has_close}
use Rattle.http_wire.proofs.FieldLemmas.{asks-this, asks-other}
use Rattle.http_wire.proofs.fields.field_closes.Goals as goal

pub returns-then-not-same_word : goal.returns-then-not-same_word
returns-then-not-same_word c =
    sym (asks-other (header_bytes c.args.head.now c.args.field.now)
    (ap (λ x. is_same_word x CONNECTION_NAME.now) (sym c.of.ensures)
    ∙ sym c.if-not-same_word.ensures))

pub returns : goal.returns
returns c =
    (c.has_close.ensures ∙ ap has_close c.of-2.ensures)
    ∙ sym (asks-this (header_bytes c.args.head.now c.args.field.now)
    (ap (λ x. is_same_word x CONNECTION_NAME.now) (sym c.of.ensures)
    ∙ sym c.if-not-same_word.ensures))
