-- Reading from the front of bytes, step by step: a value and the bytes after it, or none.
use Rattle.std.specs.Prelude.{◌≡◌, ℕ, zero, suc, Bool, nat_lt, nat_le, ◌&&◌, List, [], ◌∷◌, length, take, drop, Option, Some, None, option_and_then, Result, Ok, Err, if◌then◌else◌}
use Rattle.byteorder.specs.Endian.{big_number}
use Rattle.content_codec.specs.declared.fault.ReadFault.{ReadFault}
use Rattle.content_codec.specs.declared.fault.ReadFault.TheVariants.{NoForm, Memory}

-- what was read is what stands there, and NoForm says that nothing does; out of memory says nothing
abbrev pub Reads : {A : Type 0} → Result A ReadFault → Option (A × List ℕ) → List ℕ → Type 0
Reads (Ok value) there rest = there ≡ Some (value, rest)
Reads (Err NoForm) there rest = there ≡ None
Reads (Err Memory) there rest = Unit {0}

-- the same of a value that is seen by `view`
abbrev pub ReadsAs : {A B : Type 0} → (A → B) → Result A ReadFault → Option (B × List ℕ) →
    List ℕ → Type 0
ReadsAs view (Ok value) there rest = there ≡ Some (view value, rest)
ReadsAs view (Err NoForm) there rest = there ≡ None
ReadsAs view (Err Memory) there rest = Unit {0}

-- one step, and the next one where it gave something
infixl 10 ◌>>=◌
abbrev pub ◌>>=◌ : {A B : Type 0} → Option A → (A → Option B) → Option B
o >>= f = option_and_then f o

-- one byte
unfoldable pub byte_at : List ℕ → Option (ℕ × List ℕ)
byte_at [] = None
byte_at (byte ∷ rest) = Some (byte, rest)

-- so many bytes
unfoldable pub bytes_at : ℕ → List ℕ → Option (List ℕ × List ℕ)
bytes_at count bytes =
    if nat_lt (length bytes) count then None else Some (take count bytes, drop count bytes)

-- a number of so many bytes, the highest first
unfoldable pub number_at : ℕ → List ℕ → Option (ℕ × List ℕ)
number_at size bytes = bytes_at size bytes >>= λ x. Some (big_number size x.0, x.1)

-- a value that passes a test
abbrev pub kept : {A : Type 0} → (A → Bool) → Option (A × List ℕ) → Option (A × List ℕ)
kept test there = there >>= λ x. if test x.0 then Some x else None

-- what is made of a value
abbrev pub made : {A B : Type 0} → (A → B) → Option (A × List ℕ) → Option (B × List ℕ)
made make there = there >>= λ x. Some (make x.0, x.1)

-- one value and another one after it
abbrev pub both_at : {A B : Type 0} → (List ℕ → Option (A × List ℕ)) →
    (List ℕ → Option (B × List ℕ)) → List ℕ → Option ((A × B) × List ℕ)
both_at first second bytes =
    first bytes >>= λ x. second x.1 >>= λ y. Some ((x.0, y.0), y.1)

-- so many values of one kind
unfoldable pub each_at : {A : Type 0} → (List ℕ → Option (A × List ℕ)) → ℕ → List ℕ →
    Option (List A × List ℕ)
each_at read zero bytes = Some ([], bytes)
each_at read (suc count) bytes =
    read bytes >>= λ x. each_at read count x.1 >>= λ xs. Some (x.0 ∷ xs.0, xs.1)

-- a number of values, and the values
abbrev pub counted_at : {A : Type 0} → (List ℕ → Option (ℕ × List ℕ)) →
    (List ℕ → Option (A × List ℕ)) → List ℕ → Option (List A × List ℕ)
counted_at count read bytes = count bytes >>= λ n. each_at read n.0 n.1

-- whether a number is in a range, both ends included
abbrev pub is_within : ℕ → ℕ → ℕ → Bool
is_within low high n = nat_le low n && nat_le n high
