-- What a journal holds, with a payload in doubt or none.
use Rattle.std.specs.Prelude.{ℕ, ◌≡◌, ◌⊎◌, List, Option, Some, None}
use Rattle.disk_model.specs.Past.{Past}
use Rattle.journal.specs.Form.{Recovers, RecoversEither}
use Rattle.journal.specs.Journal.{JournalValue, Holds, HoldsInDoubt}

-- it holds these payloads, and one more is in doubt or none
abbrev pub HoldsPayloads : JournalValue → Past → List (List ℕ) → Option (List ℕ) → Type 0
HoldsPayloads journal past payloads None = Holds journal past payloads
HoldsPayloads journal past payloads (Some payload) = HoldsInDoubt journal past payloads payload

-- a file recovers to these payloads, or, where one is in doubt, to them with that one
abbrev pub RecoversPayloads : ℕ → List (List ℕ) → Option (List ℕ) → List ℕ → Type 0
RecoversPayloads k payloads None bytes = Recovers k payloads bytes
RecoversPayloads k payloads (Some payload) bytes = RecoversEither k payloads payload bytes

-- the same, or to them with another one
abbrev pub RecoversOneOf : ℕ → List (List ℕ) → Option (List ℕ) → List ℕ → List ℕ → Type 0
RecoversOneOf k payloads doubt piece bytes =
    RecoversPayloads k payloads doubt bytes ⊎ RecoversEither k payloads piece bytes

-- After a call that failed a journal holds these payloads, and in doubt is nothing, what was in
-- doubt before, or the payload that was to be appended.
abbrev pub HoldsAfterFault : JournalValue → Past → List (List ℕ) → Option (List ℕ) → List ℕ → Type 0
HoldsAfterFault journal past payloads doubt piece =
    (left : Option (List ℕ)) × HoldsPayloads journal past payloads left
    × ((left ≡ None) ⊎ ((left ≡ doubt) ⊎ (left ≡ Some piece)))
