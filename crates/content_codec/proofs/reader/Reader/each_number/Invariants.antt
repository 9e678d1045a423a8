-- What was read, with what is read of those that are left, is what is read of all.
use Rattle.std.proofs.Common.{◌≡◌, ◌-◌}
use Rattle.content_codec.specs.Reading.{each_at, number_at}
use Rattle.content_codec.proofs.Loops.{with_front}
use Rattle.content_codec.proofs.reader.Reader.each_number.Given as goal

abbrev pub invariant-loop : goal.invariant-loop
invariant-loop l =
    with_front l.numbers.items (each_at (number_at 4) (l.count - l.counter) l.self)
    ≡ each_at (number_at 4) l.count l.fn.self
