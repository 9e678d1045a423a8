-- The laws of requests at the front of bytes, each proved in src/laws.rt.
use Rattle.std.specs.Prelude.{◌≡◌, ℕ, ◌+◌, ◌<◌, ◌⊎◌, List, ◌++◌, length}
use Rattle.http_model.specs.declared.words.TheConstants.{MAX_HEAD, MAX_BODY}
use Rattle.http_model.specs.Requests.{Request, Front, whole, part, refused, IsFront}

-- bytes have one front
abbrev pub OneFront : Type 0
OneFront = (bytes : List ℕ) (front other : Front) → IsFront bytes front → IsFront bytes other →
    front ≡ other

-- a whole request stays so with more bytes, which come after what followed it
abbrev pub WholeStays : Type 0
WholeStays = (bytes more rest : List ℕ) (request : Request) → IsFront bytes (whole request rest) →
    IsFront (bytes ++ more) (whole request (rest ++ more))

-- what is refused stays so with more bytes after it
abbrev pub RefusedStays : Type 0
RefusedStays = (bytes more : List ℕ) (status : ℕ) → IsFront bytes (refused status) →
    IsFront (bytes ++ more) (refused status)

-- a part of a request is shorter than the longest head and the longest body together
abbrev pub PartIsShort : Type 0
PartIsShort = (bytes : List ℕ) → IsFront bytes part → length bytes < MAX_HEAD + MAX_BODY

-- a whole request takes at least one byte
abbrev pub AWholeTakesBytes : Type 0
AWholeTakesBytes = (bytes rest : List ℕ) (request : Request) →
    IsFront bytes (whole request rest) → length rest < length bytes

-- what is refused is refused with 400, 413 or 431
abbrev pub ARefusalHasItsStatus : Type 0
ARefusalHasItsStatus = (bytes : List ℕ) (status : ℕ) → IsFront bytes (refused status) →
    (status ≡ 400) ⊎ ((status ≡ 413) ⊎ (status ≡ 431))
