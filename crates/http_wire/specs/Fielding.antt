-- What the code's answers on fields say of the values and numbers that the definitions have.
use Rattle.std.specs.Prelude.{◌≡◌, ℕ, ◌≤◌, ◌<◌, List, [], ◌∷◌, length, Option, Some, None}
use Rattle.http_model.specs.declared.words.TheConstants.{MAX_BODY}
use Rattle.http_wire.specs.declared.fields.Named.{Named}
use Rattle.http_wire.specs.declared.fields.Named.TheVariants.{Absent, One, Many}
use Rattle.http_wire.specs.declared.fields.BodyLength.{BodyLength}
use Rattle.http_wire.specs.declared.fields.BodyLength.TheVariants.{Known, TooLong, Unclear}

-- the values of the fields of a name are none, this one, or more
abbrev pub IsNamed : Named → List (List ℕ) → Type 0
IsNamed Absent values = values ≡ []
IsNamed (One value) values = values ≡ value.now ∷ []
IsNamed Many values = 2 ≤ length values

-- the length of a body is known and small enough, too large, or unclear
abbrev pub TellsLength : BodyLength → Option ℕ → Type 0
TellsLength (Known n) told = (told ≡ Some n) × (n ≤ MAX_BODY)
TellsLength TooLong told = (n : ℕ) × (told ≡ Some n) × (MAX_BODY < n)
TellsLength Unclear told = told ≡ None
