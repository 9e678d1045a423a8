-- The values so far are those of the numbers so far.
use Rattle.std.proofs.Common.{◌≡◌, map, take}
use Rattle.serde_json.specs.View.{view}
use Rattle.wire_model.specs.Answers.{whole}
use Rattle.answer_texts.proofs.parts.numbers.Given as goal

abbrev pub invariant-loop-id : goal.invariant-loop-id
invariant-loop-id l = map view l.values.items ≡ map whole (take l.id-index l.ids)
