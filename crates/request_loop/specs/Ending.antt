-- How a connection ends, and what stands when it has ended. What is known of the requests that were
-- told, of the bytes after them, and of how often the clock was read is a parameter, `reach`.
use Rattle.std.specs.Prelude.{◌≡◌, ℕ, ◌+◌, ◌<◌, ◌≤◌, ◌⊎◌, true, false, List, [], ◌∷◌, ◌++◌, length, Option, Some}
use Rattle.outside_world.specs.Source.{with_front}
use Rattle.outside_world.specs.Sink.{with_back, AppendsPart}
use Rattle.http_model.specs.Requests.{Request, whole, part, refused, IsFront}
use Rattle.wire_model.specs.declared.answer.Answer.TheVariants.{Head}
use Rattle.wire_model.specs.Transcript.{Told, answer_text, closes, is_last, text_of}
use Rattle.request_loop.specs.declared.connection_end.ConnectionEnd.{ConnectionEnd}
use Rattle.request_loop.specs.declared.connection_end.ConnectionEnd.TheVariants.{Closed, Spent, Cut, Refused, ReadFault, WriteFault, Memory}
use Rattle.request_loop.specs.Serving.{MayGoOn}

-- The end that the bytes give after these requests, if `rest` is left: as many were answered as the
-- limit allows; the last asks for closing, or nothing is left; what is left is a part of a request,
-- of so many bytes; or it is refused.
abbrev pub IsEnd : ℕ → List Told → List ℕ → ConnectionEnd → Type 0
IsEnd limit told rest Spent = length told ≡ limit
IsEnd limit told rest Closed =
    (length told < limit) × ((closes told ≡ true) ⊎ ((closes told ≡ false) × (rest ≡ [])))
IsEnd limit told rest (Cut count) =
    MayGoOn limit told × (0 < length rest) × IsFront rest part × (count ≡ length rest)
IsEnd limit told rest (Refused status) = MayGoOn limit told × IsFront rest (refused status)
IsEnd limit told rest _ = ⊥

-- the text after the answers: the response to what is refused, if the connection ends so
abbrev pub last_text : ConnectionEnd → List ℕ
last_text (Refused status) = answer_text (Head status) true
last_text _ = []

-- Requests that were told within the limit, with what is left of the bytes; the clock was read once
-- for each.
pub record Reached (reach : List Told → List ℕ → ℕ → Type 0) (limit : ℕ) : Type 0 where
  pub told : List Told
  pub rest : List ℕ
  pub holds : reach told rest (length told)
  pub within : length told ≤ limit

-- The connection ended as the bytes say, and wrote the text of its transcript.
pub record EndsAsTold
    (reach : List Told → List ℕ → ℕ → Type 0) (limit : ℕ)
    (before after : Option (List ℕ)) (end : ConnectionEnd) : Type 0 where
  pub reached : Reached reach limit
  pub ends : IsEnd limit reached.told reached.rest end
  pub written : after ≡ with_back before (text_of limit reached.told ++ last_text end)

-- A read failed: no whole request and nothing to refuse is left of the bytes that were read, so that
-- all that was asked was answered.
pub record EndsAtRead
    (reach : List Told → List ℕ → ℕ → Type 0) (limit : ℕ)
    (left before after : Option (List ℕ)) : Type 0 where
  pub reached : Reached reach limit
  pub goes_on : MayGoOn limit reached.told
  pub unanswered : List ℕ
  pub waits : IsFront unanswered part
  pub left_is : with_front unanswered left ≡ Some reached.rest
  pub written : after ≡ with_back before (text_of limit reached.told)

-- A write failed: of the last answer a first part was written, and all of the earlier ones.
pub record EndsInAnswer
    (reach : List Told → List ℕ → ℕ → Type 0) (limit : ℕ)
    (before after : Option (List ℕ)) : Type 0 where
  pub reached : Reached reach limit
  pub earlier : List Told
  pub last : Told
  pub told : reached.told ≡ earlier ++ last ∷ []
  pub written : AppendsPart (with_back before (text_of limit earlier)) after
      (answer_text last.answer (is_last limit (length earlier) last.request))

-- A write failed in the response to what is refused: a first part of it was written, and all answers
-- before it.
pub record EndsInRefusal
    (reach : List Told → List ℕ → ℕ → Type 0) (limit : ℕ)
    (before after : Option (List ℕ)) : Type 0 where
  pub reached : Reached reach limit
  pub status : ℕ
  pub ends : IsEnd limit reached.told reached.rest (Refused status)
  pub written : AppendsPart (with_back before (text_of limit reached.told)) after
      (answer_text (Head status) true)

-- Memory ran out, and what was written is the text of a transcript of the first requests.
pub record EndsEarly
    (reach : List Told → List ℕ → ℕ → Type 0) (limit : ℕ)
    (before after : Option (List ℕ)) : Type 0 where
  pub reached : Reached reach limit
  pub written : after ≡ with_back before (text_of limit reached.told)

-- Memory ran out before the next request was answered, for which the clock was read.
pub record EndsBeforeAnswer
    (reach : List Told → List ℕ → ℕ → Type 0) (limit : ℕ)
    (before after : Option (List ℕ)) : Type 0 where
  pub told : List Told
  pub rest : List ℕ
  pub holds : reach told rest (length told + 1)
  pub goes_on : MayGoOn limit told
  pub request : Request
  pub following : List ℕ
  pub asked : IsFront rest (whole request following)
  pub written : after ≡ with_back before (text_of limit told)

-- Memory ran out: the last request may have been accepted or refused without its answer being
-- written.
pub record EndsUnanswered
    (reach : List Told → List ℕ → ℕ → Type 0) (limit : ℕ)
    (before after : Option (List ℕ)) : Type 0 where
  pub reached : Reached reach limit
  pub earlier : List Told
  pub last : Told
  pub told : reached.told ≡ earlier ++ last ∷ []
  pub written : after ≡ with_back before (text_of limit earlier)

-- What stands at the end of a connection, by how it ended. The source has `left`; the bytes that the
-- sink had taken are those `before`, and then those `after`.
abbrev pub Ends : (List Told → List ℕ → ℕ → Type 0) → ℕ → Option (List ℕ) → Option (List ℕ) →
    Option (List ℕ) → ConnectionEnd → Type 0
Ends reach limit left before after ReadFault = EndsAtRead reach limit left before after
Ends reach limit left before after WriteFault =
    EndsInAnswer reach limit before after ⊎ EndsInRefusal reach limit before after
Ends reach limit left before after Memory =
    EndsEarly reach limit before after
    ⊎ (EndsBeforeAnswer reach limit before after ⊎ EndsUnanswered reach limit before after)
Ends reach limit left before after end = EndsAsTold reach limit before after end

-- the end of a connection whose input ends with these bytes, which are less than a request
abbrev pub ended_by : List ℕ → ConnectionEnd
ended_by [] = Closed
ended_by (b ∷ bytes) = Cut (length (b ∷ bytes))

-- what the response to what is refused leaves in the sink, by how the connection ends
abbrev pub RefusedWith : ℕ → Option (List ℕ) → Option (List ℕ) → ConnectionEnd → Type 0
RefusedWith status before after (Refused told) =
    (told ≡ status) × (after ≡ with_back before (answer_text (Head status) true))
RefusedWith status before after Memory = after ≡ before
RefusedWith status before after WriteFault = AppendsPart before after (answer_text (Head status) true)
RefusedWith status before after _ = ⊥
