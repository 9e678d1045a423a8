-- What a reader does with bytes.
use Rattle.std.specs.Prelude.{ℕ, List}
use Rattle.http_wire.specs.declared.next.Next.TheVariants.{Whole, Partial, Refused}
use Rattle.http_wire.specs.declared.reader.Step.{Step}
use Rattle.http_wire.specs.declared.reader.Step.TheVariants.{Answer, Wait, Refuse}
use Rattle.http_wire.specs.Reading.{IsNext, Knows}

-- the step is right: an answer is the front; while it waits the bytes are a part, and what it
-- remembers holds of them
abbrev pub TakesStep : List ℕ → Step → Type 0
TakesStep bytes (Answer request n) = IsNext bytes (Whole request n)
TakesStep bytes (Wait scanned wanted) =
    IsNext bytes Partial × Knows (record { scanned = scanned; wanted = wanted }) bytes
TakesStep bytes (Refuse status) = IsNext bytes (Refused status)
