-- Each field of the name is added to what was found.
use Rattle.std.proofs.Common.{◌++◌, ◌∷◌, [], map, take, subst, sym, ap, ◌∙◌}
use Rattle.std.proofs.lemmas.List.{append-nil}
use Rattle.httparse.specs.Spans.{header_bytes}
use Rattle.http_model.specs.Fields.{is_same_word, values_named}
use Rattle.http_wire.specs.Fielding.{IsNamed}
use Rattle.http_wire.proofs.FieldLemmas.{values_named-none, values_named-more, values_named-this, values_named-other}
use Rattle.http_wire.proofs.fields.find.Goals as goal
use Rattle.http_wire.proofs.fields.find.Goals.{then-same_word, else-same_word}

pub loop-field-init : goal.loop-field-init
loop-field-init c = values_named-none c.args.name.now

pub loop-field-preserved : goal.loop-field-preserved
loop-field-preserved c =
    let name = c.args.name.now in let head = c.args.head.now in
    let fields = c.args.fields.now in let i = c.loop-field.field-index in
    let old = values_named name (map (header_bytes head) (take i fields)) in
    let more = values_named-more name head fields i _ c.loop-field-test.true in
    elim c.if-same_word.branch [
      | then-same_word w ↦
          (let same = ap (λ x. is_same_word x name) (sym c.of.ensures)
          ∙ sym w.if-same_word.ensures in
          let values = more ∙ (ap (λ v. old ++ v) (values_named-this name _ same)
          ∙ ap (λ v. old ++ (v ∷ [])) (sym w.of-then-same_word.ensures)) in
          subst (IsNamed c.if-same_word.found) (sym values)
          (subst (λ f. IsNamed f (old ++ (w.of-then-same_word.result.now ∷ []))) (sym w.found-is)
          (w.and-found.ensures old c.loop-field.invariant)))
      | else-same_word w ↦
          (let other = ap (λ x. is_same_word x name) (sym c.of.ensures)
          ∙ sym w.if-same_word.ensures in
          let values = more
          ∙ (ap (λ v. old ++ v) (values_named-other name _ other) ∙ append-nil old) in
          subst (IsNamed c.if-same_word.found) (sym values)
          (subst (λ f. IsNamed f old) (sym w.found-is) c.loop-field.invariant))
    ]
