use Rattle.std.proofs.Common.{◌≡◌, ◌+◌, length, drop}
use Rattle.site_types.specs.Content.{texts_form}
use Rattle.site_types.proofs.measure.room_after_texts.Given as goal

-- the room that is left is what the forms so far have not taken
abbrev pub invariant-loop-text : goal.invariant-loop-text
invariant-loop-text l =
    let rest = texts_form (drop l.text-index l.texts) in
    length (texts_form l.texts) + l.left ≡ l.fn.room + length rest
