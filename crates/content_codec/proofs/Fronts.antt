-- What a step of reading says of the front of bytes, and of forms.
use Rattle.std.proofs.Common.{◌≡◌, ℕ, ◌+◌, ◌-◌, ◌≤◌, List, ◌++◌, length, take, drop, Option, Some, None, sym, ap, ◌∙◌, arith}
use Rattle.std.proofs.lemmas.List.{length-append, take_at, take-append-drop}
use Rattle.byte_forms.specs.Fronts.{IsAtFront, HasOneReading}
use Rattle.content_codec.proofs.Readings.{AreBytes, IsReading, some_is}

-- one form is of one value, and begins no other form
pub one_reading : {A : Type 0} {form : A → List ℕ} {Is : A → Type 0}
    {at : List ℕ → Option (A × List ℕ)} → IsReading form Is at → HasOneReading form Is
one_reading {A} {form} {Is} {at} reading value other rest more is is2 same =
    let first = reading.again value rest is in
    let second = reading.again other more is2 in
    let it : A × List ℕ = (value, rest) in
    let both : it ≡ (other, more) = some_is it (other, more) (sym first ∙ ap at same ∙ second) in
    (ap (λ (p : A × List ℕ). p.0) both, ap (λ (p : A × List ℕ). p.1) both)

-- what is left is no more than there was
pub left_is_less : {A : Type 0} {form : A → List ℕ} {Is : A → Type 0}
    {at : List ℕ → Option (A × List ℕ)} → IsReading form Is at → (bytes : List ℕ) (value : A)
    (rest : List ℕ) → AreBytes bytes → at bytes ≡ Some (value, rest) →
    length rest ≤ length bytes
left_is_less {A} {form} reading bytes value rest are e =
    let parts = (reading.takes bytes value rest are e).parts in
    let size : length bytes ≡ length (form value) + length rest =
    ap (λ (t : List ℕ). length t) parts ∙ length-append (form value) rest in
    omega arith

-- a value that was read stands at the front
pub is_at_front : {A : Type 0} {form : A → List ℕ} {Is : A → Type 0}
    {at : List ℕ → Option (A × List ℕ)} → IsReading form Is at → (bytes : List ℕ) (value : A)
    (rest : List ℕ) (size : ℕ) → AreBytes bytes → at bytes ≡ Some (value, rest) →
    size ≡ length bytes - length rest → IsAtFront form Is bytes value size
is_at_front {A} {form} reading bytes value rest size are e is =
    let one = reading.takes bytes value rest are e in
    let both : length bytes ≡ length (form value) + length rest =
    ap (λ (t : List ℕ). length t) one.parts ∙ length-append (form value) rest in
    let exact : length (form value) ≡ size = omega arith in
    let front : take size bytes ≡ form value =
    ap (take size) one.parts ∙ take_at (form value) rest size exact in
    record { has_form = one.is; within = omega arith; is_form = front }

-- where nothing is read, no value stands at the front
pub none_is_at_front : {A : Type 0} {form : A → List ℕ} {Is : A → Type 0}
    {at : List ℕ → Option (A × List ℕ)} → IsReading form Is at → (bytes : List ℕ) →
    at bytes ≡ None → (value : A) (size : ℕ) → IsAtFront form Is bytes value size → ⊥
none_is_at_front {A} {form} {Is} {at} reading bytes e value size is =
    let parts : bytes ≡ form value ++ drop size bytes =
    sym (take-append-drop size bytes) ∙ ap (λ (t : List ℕ). t ++ drop size bytes) is.is_form in
    let found = reading.again value (drop size bytes) is.has_form in
    let absent : Option (A × List ℕ) = None in
    let both : absent ≡ Some (value, drop size bytes) = sym e ∙ ap at parts ∙ found in
    cc
