-- What requests at the front of bytes, their moments and their answers have to do with one another
-- and with what answers them: over any answerer, and any relation of what it was, a request, its
-- moment, its answer, and what it is then.
use Rattle.std.specs.Prelude.{◌≡◌, ℕ, ◌+◌, ◌≤◌, ◌<◌, ◌⊎◌, false, List, [], ◌∷◌, ◌++◌, length, Option, Some}
use Rattle.outside_world.specs.Source.{with_front}
use Rattle.outside_world.specs.declared.clock.TheConstants.{LAST_MOMENT}
use Rattle.http_model.specs.Requests.{Request, whole, part, IsFront}
use Rattle.wire_model.specs.declared.answer.Answer.{Answer}
use Rattle.wire_model.specs.Transcript.{Told, EndsWhereClosing, HasMoments, closes}

-- These requests are the first in the bytes, in their order, and `rest` is left of the bytes;
-- nothing follows one that asks for closing.
abbrev pub Asks : List ℕ → List Told → List ℕ → Type 0
Asks bytes [] rest = rest ≡ bytes
Asks bytes (told ∷ more) rest =
    (mid : List ℕ) × IsFront bytes (whole told.request mid)
    × EndsWhereClosing told.request.close more × Asks mid more rest

-- These requests were answered one after another, which led from the first state to the last.
abbrev pub Chains : {A : Type 0} → (A → Request → ℕ → Answer → A → Type 0) → A → List Told → A →
    Type 0
Chains answers first [] last = last ≡ first
Chains {A} answers first (told ∷ more) last =
    (mid : A) × answers first told.request told.moment told.answer mid
    × Chains answers mid more last

-- no moment is after the last one
abbrev pub AreMoments : List Told → Type 0
AreMoments [] = Unit {0}
AreMoments (told ∷ more) = (told.moment ≤ LAST_MOMENT) × AreMoments more

-- more requests may be answered after these: they are fewer than the limit, and the last does not
-- ask for closing
abbrev pub MayGoOn : ℕ → List Told → Type 0
MayGoOn limit told = (length told < limit) × (closes told ≡ false)

-- Each read waits for a request. Before the last piece, the bytes that were read held the first of
-- these requests and then less than a request, and another request could be answered. So nothing is
-- read after the last answer.
pub record ReadsInTurn (limit : ℕ) (read : List ℕ) (told : List Told) : Type 0 where
  pub earlier : List ℕ
  pub piece : List ℕ
  pub read_is : read ≡ earlier ++ piece
  pub first : List Told
  pub more : List Told
  pub told_is : told ≡ first ++ more
  pub waiting : List ℕ
  pub asks : Asks earlier first waiting
  pub waits : IsFront waiting part
  pub goes_on : MayGoOn limit first

-- The answerer is what the last answer left, and the clock was read once a request; or memory ran
-- out before one more answer, for which the clock was read too.
abbrev pub IsAfter : {A : Type 0} → (A → A → Type 0) → ℕ → ℕ → A → A → Type 0
IsAfter gives_up count reads last now =
    ((reads ≡ count) × (now ≡ last)) ⊎ ((reads ≡ count + 1) × gives_up last now)

-- The requests of a connection, answered by an answerer that was `first` and is `now`: of the bytes
-- `rest` comes after the requests, and the source has `left`; the clock was read `reads` times.
pub record Served {A : Type 0}
    (answers : A → Request → ℕ → Answer → A → Type 0) (gives_up : A → A → Type 0) (limit : ℕ)
    (first now : A) (bytes : List ℕ) (left : Option (List ℕ)) (coming later : ℕ → Option ℕ)
    (told : List Told) (rest : List ℕ) (reads : ℕ) : Type 0 where
  pub asks : Asks bytes told rest
  pub last : A
  pub chain : Chains answers first told last
  pub state : IsAfter gives_up (length told) reads last now
  pub moments : HasMoments coming 0 told
  pub in_range : AreMoments told
  pub moved : (k : ℕ) → later k ≡ coming (k + reads)
  pub read : List ℕ
  pub read_left : with_front read left ≡ Some bytes
  pub turns : ReadsInTurn limit read told
