-- The forms of single fields: numbers, truth values, moments, slugs, paths and lists of ids.
-- Numbers are big-endian.
use Rattle.std.specs.Prelude.{ℕ, ◌≤◌, ◌<◌, Bool, true, false, List, [], ◌∷◌, ◌++◌, length, replicate, Option, Some, None, All}
use Rattle.std.specs.Int.{w32, w64, to_be_bytes}
use Rattle.site_types.specs.Ids.{IsGroupId, IsTaskId}

-- a number in four bytes
unfoldable pub u32_form : ℕ → List ℕ
u32_form n = to_be_bytes w32 n

-- a number in eight bytes
unfoldable pub u64_form : ℕ → List ℕ
u64_form n = to_be_bytes w64 n

-- the number of a truth value
abbrev pub truth_number : Bool → ℕ
truth_number false = 0
truth_number true = 1

-- a truth value: one byte, 0 or 1
abbrev pub truth_form : Bool → List ℕ
truth_form truth = truth_number truth ∷ []

-- an id: its number in four bytes
abbrev pub id_form : ℕ → List ℕ
id_form id = u32_form id

-- an id that may be absent: 0 is none
abbrev pub optional_id_form : Option ℕ → List ℕ
optional_id_form None = id_form 0
optional_id_form (Some id) = id_form id

-- a moment: its seconds in eight bytes
abbrev pub moment_form : ℕ → List ℕ
moment_form seconds = u64_form seconds

-- a moment that may be absent: eight bytes 255 are none
unfoldable pub optional_moment_form : Option ℕ → List ℕ
optional_moment_form None = replicate 8 255
optional_moment_form (Some seconds) = moment_form seconds

-- at most 255 bytes: their number in one byte, and they
abbrev pub short_form : List ℕ → List ℕ
short_form bytes = length bytes ∷ bytes

-- a slug: its length in one byte, and its bytes
abbrev pub slug_form : List ℕ → List ℕ
slug_form slug = short_form slug

-- the text of a path: its length in one byte, and its bytes
abbrev pub path_form : List ℕ → List ℕ
path_form path = short_form path

-- the forms of some values, one after the other
abbrev pub each_form : {A : Type 0} → (A → List ℕ) → List A → List ℕ
each_form form [] = []
each_form form (value ∷ values) = form value ++ each_form form values

-- ids, one after the other
abbrev pub each_id_form : List ℕ → List ℕ
each_id_form ids = each_form id_form ids

-- a list of ids: their number in one byte, and the ids
abbrev pub ids_form : List ℕ → List ℕ
ids_form ids = length ids ∷ each_id_form ids

-- each number is above the one before it, and the first is above `low`
abbrev pub RisesAbove : ℕ → List ℕ → Type 0
RisesAbove low [] = Unit {0}
RisesAbove low (id ∷ ids) = (low < id) × RisesAbove id ids

-- the groups of a task: 1 to 16 ids, rising
pub record AreGroups (ids : List ℕ) : Type 0 where
  pub not_empty : 1 ≤ length ids
  pub few : length ids ≤ 16
  pub are_ids : All IsGroupId ids
  pub rise : RisesAbove 0 ids

-- the tasks of a workflow: 1 to 16 ids in any order
pub record AreTasks (ids : List ℕ) : Type 0 where
  pub not_empty : 1 ≤ length ids
  pub few : length ids ≤ 16
  pub are_ids : All IsTaskId ids

-- an optional value, if it is there, is one of these
abbrev pub IfThere : (ℕ → Type 0) → Option ℕ → Type 0
IfThere Is None = Unit {0}
IfThere Is (Some n) = Is n
