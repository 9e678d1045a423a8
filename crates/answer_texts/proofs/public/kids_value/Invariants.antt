-- The values so far are those of the kids so far.
use Rattle.std.proofs.Common.{◌≡◌, map, take}
use Rattle.serde_json.specs.View.{view}
use Rattle.wire_model.specs.Answers.{kid_data}
use Rattle.answer_texts.proofs.public.kids_value.Given as goal

abbrev pub invariant-loop-kid : goal.invariant-loop-kid
invariant-loop-kid l = map view l.values.items ≡ map kid_data (take l.kid-index l.kids)
