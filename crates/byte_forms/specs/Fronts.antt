-- What stands at the front of bytes, by a form.
use Rattle.std.specs.Prelude.{◌≡◌, ◌≤◌, ℕ, List, ◌++◌, length, take, Option, Some, None}

-- the first `size` bytes are the form of this value, which has one
pub record IsAtFront {A : Type 0} (form : A → List ℕ) (Is : A → Type 0) (bytes : List ℕ)
    (value : A) (size : ℕ) : Type 0 where
  pub has_form : Is value
  pub within : size ≤ length bytes
  pub is_form : take size bytes ≡ form value

-- what an attempt to read says: the value at the front and its size, or none where the bytes begin
-- with no form
abbrev pub TellsFront : {A : Type 0} → (A → List ℕ) → (A → Type 0) → List ℕ →
    Option (A × ℕ) → Type 0
TellsFront form Is bytes (Some found) = IsAtFront form Is bytes found.0 found.1
TellsFront {A} form Is bytes None =
    (value : A) (size : ℕ) → IsAtFront form Is bytes value size → ⊥

-- one form is of one value, and no form begins another: where bytes go on after a form, they can be
-- split in no other way
abbrev pub HasOneReading : {A : Type 0} → (A → List ℕ) → (A → Type 0) → Type 0
HasOneReading {A} form Is =
    (value other : A) (rest more : List ℕ) → Is value → Is other →
    form value ++ rest ≡ form other ++ more → (value ≡ other) × (rest ≡ more)
