-- What was written, with the numbers that are left, is what is written at the end.
use Rattle.std.proofs.Common.{◌≡◌, ◌++◌, drop}
use Rattle.byte_forms.specs.Fields.{each_id_form, ids_form}
use Rattle.content_codec.proofs.writer.Writer.numbers.Given as goal

abbrev pub invariant-loop-number : goal.invariant-loop-number
invariant-loop-number l =
    l.self ++ each_id_form (drop l.number-index l.numbers) ≡ l.fn.self ++ ids_form l.fn.numbers
