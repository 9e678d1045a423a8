-- What was read, with what is read of those that are left, is what is read of all.
use Rattle.std.proofs.Common.{◌≡◌, ◌-◌}
use Rattle.content_codec.specs.Reading.{each_at}
use Rattle.content_codec.specs.Fields.{text_at}
use Rattle.content_codec.proofs.Loops.{with_front}
use Rattle.content_codec.proofs.reader.Reader.each_text.Given as goal

abbrev pub invariant-loop : goal.invariant-loop
invariant-loop l =
    with_front l.texts.items (each_at text_at (l.count - l.counter) l.self)
    ≡ each_at text_at l.count l.fn.self
