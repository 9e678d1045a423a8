-- The transcript: requests at the front of the bytes, one after another, with their moments and
-- answers, and its text. What a request may get is a relation: an answer of the disk's fault or of
-- want of memory may stand in place of what the history decides. How many answers a connection gives
-- at most is a parameter.
use Rattle.std.specs.Prelude.{◌≡◌, ℕ, ◌+◌, ◌⊎◌, ◌==◌, ◌||◌, Bool, true, false, List, [], ◌∷◌, ◌++◌, Option, IfSome}
use Rattle.disk_model.specs.Faults.{Rose}
use Rattle.site_types.specs.declared.entry.Entry.{Entry}
use Rattle.site_types.specs.declared.reply.Reply.{Reply}
use Rattle.site_history.specs.History.{accepted}
use Rattle.http_model.specs.declared.method.Method.TheVariants as methods
use Rattle.http_model.specs.Requests.{Request, whole, IsFront}
use Rattle.http_model.specs.Responses.{response_text}
use Rattle.wire_model.specs.declared.answer.Answer.{Answer}
use Rattle.wire_model.specs.declared.answer.Answer.TheVariants.{Disk, Memory}
use Rattle.wire_model.specs.Answers.{response_of}
use Rattle.wire_model.specs.Exchange.{Past, Outcome, exchange, tally_of, grown_by}

-- A request that was answered: the moment at which it was read, and its answer.
pub record Told : Type 0 where
  pub request : Request
  pub moment : ℕ
  pub answer : Answer

-- what a request with its moment comes to after a history
abbrev pub outcome : Past → Told → Outcome
outcome past told = exchange (tally_of past) told.request told.moment

-- the history after a request with its moment
abbrev pub after_told : Past → Told → Past
after_told past told = grown_by past (outcome past told).added

-- a request comes to an entry that is accepted
abbrev pub IsAccepted : Outcome → Type 0
IsAccepted outcome =
    (entry : Entry) × (reply : Reply) × (outcome.added ≡ accepted entry reply ∷ [])

-- A request was answered what the history decides, which goes on with what that adds; the disk's
-- count of faults is as it was.
abbrev pub IsDecided : Past → ℕ → Told → Past → ℕ → Type 0
IsDecided past before told next after =
    (told.answer ≡ (outcome past told).answer) × (next ≡ after_told past told) × (after ≡ before)

-- The disk failed at a command that no rule refuses: its count of faults rose from the one number to
-- the other, and the history is as it was.
abbrev pub MeetsFault : Past → ℕ → Told → Past → ℕ → Type 0
MeetsFault past before told next after =
    IsAccepted (outcome past told) × (told.answer ≡ Disk before after) × Rose before after
    × (next ≡ past)

-- Memory ran out at a request by POST before anything of it was accepted: the history and the count
-- are as they were.
abbrev pub LacksMemory : Past → ℕ → Told → Past → ℕ → Type 0
LacksMemory past before told next after =
    (told.request.method ≡ methods.Post) × (told.answer ≡ Memory) × (next ≡ past)
    × (after ≡ before)

-- What a request may get after a history, on a disk that has counted so many faults before it; then
-- the history is `next`, and so many are counted `after` it.
abbrev pub Gets : Past → ℕ → Told → Past → ℕ → Type 0
Gets past before told next after =
    IsDecided past before told next after
    ⊎ (MeetsFault past before told next after ⊎ LacksMemory past before told next after)

-- an answer that tells neither of a fault of the disk nor of want of memory: the history decides it
abbrev pub IsPlain : Answer → Type 0
IsPlain (Disk before after) = ⊥
IsPlain Memory = ⊥
IsPlain _ = Unit {0}

-- each answer of a transcript is decided by its history
abbrev pub ArePlain : List Told → Type 0
ArePlain [] = Unit {0}
ArePlain (told ∷ more) = IsPlain told.answer × ArePlain more

-- nothing follows a request that asks for closing
abbrev pub EndsWhereClosing : Bool → List Told → Type 0
EndsWhereClosing true more = more ≡ []
EndsWhereClosing false more = Unit {0}

-- From a history on, and from a count of the disk's faults on, these requests are the first in the
-- bytes, in their order, with these moments and answers; then the history is `after` and the count
-- `later`, and `rest` is left of the bytes.
abbrev pub Follows : Past → ℕ → List ℕ → List Told → Past → ℕ → List ℕ → Type 0
Follows past count bytes [] after later rest =
    (after ≡ past) × (later ≡ count) × (rest ≡ bytes)
Follows past count bytes (told ∷ more) after later rest =
    (mid : List ℕ) × (next : Past) × (between : ℕ)
    × IsFront bytes (whole told.request mid)
    × Gets past count told next between
    × EndsWhereClosing told.request.close more
    × Follows next between mid more after later rest

-- the last request asks for closing
abbrev pub closes : List Told → Bool
closes [] = false
closes (told ∷ []) = told.request.close
closes (told ∷ next ∷ more) = closes (next ∷ more)

-- The moments are those that a clock gives, one for each request, if the clock gives any.
abbrev pub HasMoments : (ℕ → Option ℕ) → ℕ → List Told → Type 0
HasMoments coming place [] = Unit {0}
HasMoments coming place (told ∷ more) =
    IfSome (coming place) (λ moment. told.moment ≡ moment) × HasMoments coming (place + 1) more

-- the text of an answer; `last` is true where the connection ends after it
abbrev pub answer_text : Answer → Bool → List ℕ
answer_text answer last = response_text (response_of answer) last

-- Whether the connection ends after this request, when so many were answered before it: the request
-- asks for closing, or its answer is the last of the limit.
abbrev pub is_last : ℕ → ℕ → Request → Bool
is_last limit count request = request.close || (count + 1 == limit)

-- the text of answers when so many were given before them, of at most the limit
abbrev pub text_from : ℕ → ℕ → List Told → List ℕ
text_from limit count [] = []
text_from limit count (told ∷ more) =
    answer_text told.answer (is_last limit count told.request) ++ text_from limit (count + 1) more

-- the text of a transcript of at most so many answers: the responses, one after another
abbrev pub text_of : ℕ → List Told → List ℕ
text_of limit told = text_from limit 0 told
