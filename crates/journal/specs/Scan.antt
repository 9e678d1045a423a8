-- What a scan of a journal's file has read.
use Rattle.std.specs.Prelude.{ℕ, ◌≡◌, ◌<◌, Bool, false, List, [], ◌∷◌, ◌++◌, length, take, drop, Option, Some, None, Vec}
use Rattle.std.specs.declared.alloc.Global.{Global}
use Rattle.std.specs.List.{AllByRecursion}
use Rattle.journal.specs.Form.{header, record_of, front, Fits}
use Rattle.journal.specs.Journal.{JournalValue}

-- a scan: the number of its journal, the offset of the next gate, the length of the file, whether a
-- gate was found that is not 1, and a part of the file that it holds, with that part's offset
pub record ScanValue : Type 0 where
  pub k : ℕ
  pub gate : ℕ
  pub size : ℕ
  pub ended : Bool
  pub at : ℕ
  pub block : List ℕ

-- the bytes of a part, if there is one
abbrev pub bytes_in : Option (Vec ℕ Global) → List ℕ
bytes_in None = []
bytes_in (Some block) = block.items

-- these bytes stand in a file from an offset on
abbrev pub IsPart : List ℕ → ℕ → List ℕ → Type 0
IsPart part at bytes = part ≡ take (length part) (drop at bytes)

-- Of a file with these bytes the scan has read these payloads, and the next gate is there.
pub record HasRead (scan : ScanValue) (bytes : List ℕ) (payloads : List (List ℕ)) : Type 0 where
  pub size : scan.size ≡ length bytes
  pub more : scan.gate < scan.size
  pub gate : scan.gate ≡ length (front scan.k payloads)
  pub read : take scan.gate bytes ≡ front scan.k payloads
  pub fit : AllByRecursion Fits payloads
  pub part : IsPart scan.block scan.at bytes

-- a header with a gate after it
pub record HasHeader (k : ℕ) (bytes : List ℕ) : Type 0 where
  pub gate : ℕ
  pub rest : List ℕ
  pub is : bytes ≡ header k ++ gate ∷ rest

-- After these payloads an open gate stands at an offset, and no whole record with a gate after it.
pub record IsCutShort (k : ℕ) (payloads : List (List ℕ)) (bytes : List ℕ) (offset : ℕ) : Type 0
  where
    pub offset_is : offset ≡ length (front k payloads)
    pub rest : List ℕ
    pub is : bytes ≡ front k payloads ++ 1 ∷ rest
    pub none : (payload : List ℕ) (next : ℕ) (more : List ℕ) → Fits payload
        → rest ≡ record_of payload ++ next ∷ more → ⊥

-- the journal of a scan that ended
abbrev pub journal_of : ScanValue → JournalValue
journal_of scan = record { k = scan.k; gate = scan.gate; pending = false }
