-- The fields ask for closing where the first does, or one after it.
use Rattle.std.proofs.Common.{◌∙◌, sym, ap, map, drop, ◌+◌}
use Rattle.std.specs.Prelude.{◌||◌}
use Rattle.httparse.specs.Spans.{header_bytes}
use Rattle.http_model.specs.Fields.{asks_for_closing}
use Rattle.http_wire.proofs.FieldLemmas.{asks-drop, asks-end}
use Rattle.http_wire.proofs.fields.asks_for_closing.Goals as goal

pub returns-then-field_closes : goal.returns-then-field_closes
returns-then-field_closes c =
    let fields = c.args.fields.now in let i = c.loop-field.field-index in
    sym (sym c.loop-field.invariant ∙ (asks-drop c.args.head.now fields i _ c.loop-field-test.true
    ∙ ap (λ t. t || asks_for_closing (map (header_bytes c.args.head.now) (drop (i + 1) fields)))
    (sym c.if-field_closes.ensures)))

pub loop-field-preserved : goal.loop-field-preserved
loop-field-preserved c =
    let fields = c.args.fields.now in let i = c.loop-field.field-index in
    sym (asks-drop c.args.head.now fields i _ c.loop-field-test.true
    ∙ ap (λ t. t || asks_for_closing (map (header_bytes c.args.head.now) (drop (i + 1) fields)))
    (sym c.if-field_closes.ensures))
    ∙ c.loop-field.invariant

pub returns : goal.returns
returns c =
    sym (sym c.loop-field.invariant
    ∙ asks-end c.args.head.now c.args.fields.now c.loop-field.field-index c.loop-field-test.false)
