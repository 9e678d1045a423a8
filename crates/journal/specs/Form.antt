-- The form of a journal's file: the eight bytes `WPTJRNL1`, the number k of the journal in eight
-- bytes, a gate, and records, each with the next gate after it. Numbers are big-endian. A record is
-- the length of its payload, in four bytes, and the payload. It is open if the gate before it is 1,
-- and what follows the first gate that is not 1 is ignored.
use Rattle.std.specs.Prelude.{ℕ, ◌≡◌, ◌≢◌, ◌⊎◌, ◌+◌, ◌%◌, ◌^◌, ◌<◌, List, [], ◌∷◌, ◌++◌, length}
use Rattle.std.specs.List.{AllByRecursion}
use Rattle.std.specs.Int.{w32, w64, to_be_bytes}

-- the eight bytes at the front: `WPTJRNL1`
abbrev pub magic : List ℕ
magic = 87 ∷ 80 ∷ 84 ∷ 74 ∷ 82 ∷ 78 ∷ 76 ∷ 49 ∷ []

-- the file of journal k
abbrev pub journal_file : ℕ → ℕ
journal_file k = 2 + k % 2

-- the 16 bytes before the first gate
abbrev pub header : ℕ → List ℕ
header k = magic ++ to_be_bytes w64 k

-- a record
abbrev pub record_of : List ℕ → List ℕ
record_of payload = to_be_bytes w32 (length payload) ++ payload

-- records, each with its open gate before it
unfoldable pub opened : List (List ℕ) → List ℕ
opened [] = []
opened (payload ∷ payloads) = (1 ∷ record_of payload) ++ opened payloads

-- what stands before the first gate that is not 1, if these are the payloads
unfoldable pub front : ℕ → List (List ℕ) → List ℕ
front k payloads = header k ++ opened payloads

-- the payload's length fits its four bytes
abbrev pub Fits : List ℕ → Type 0
Fits payload = length payload < 2 ^ 32

-- A file recovers to these payloads: after their records stands a gate that is not 1.
pub record Recovers (k : ℕ) (payloads : List (List ℕ)) (bytes : List ℕ) : Type 0 where
  pub gate : ℕ
  pub rest : List ℕ
  pub is : bytes ≡ front k payloads ++ gate ∷ rest
  pub closed : gate ≢ 1
  pub fit : AllByRecursion Fits payloads

-- A file whose last record is in doubt: it stands whole, with a gate after it that is not 1, and
-- the gate before it may be open or not.
pub record LeavesInDoubt (k : ℕ) (payloads : List (List ℕ)) (payload bytes : List ℕ) : Type 0
  where
    pub gate : ℕ
    pub next : ℕ
    pub rest : List ℕ
    pub is : bytes ≡ front k payloads ++ gate ∷ record_of payload ++ next ∷ rest
    pub closed : next ≢ 1
    pub fit : AllByRecursion Fits payloads
    pub last_fits : Fits payload

-- a file recovers to these payloads, or to those with one more
abbrev pub RecoversEither : ℕ → List (List ℕ) → List ℕ → List ℕ → Type 0
RecoversEither k payloads payload bytes =
    Recovers k payloads bytes ⊎ Recovers k (payloads ++ payload ∷ []) bytes
