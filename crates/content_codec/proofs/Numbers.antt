-- Numbers of two, four and eight bytes are read as they are written.
use Rattle.std.proofs.Common.{◌≡◌, ℕ, ◌^◌, ◌<◌, List, [], ◌++◌, length, Some, refl, sym, ap, subst, ◌∙◌, inl, inr, arith}
use Rattle.std.specs.Int.{w16, to_be_bytes}
use Rattle.std.proofs.lemmas.Bool.{cases_lt}
use Rattle.std.proofs.lemmas.List.{append-nil, get_or_append_left, get_or_past}
use Rattle.std.proofs.lemmas.Nat.{be_bytes_2, be_bytes_4, be_bytes_8}
use Rattle.byteorder.specs.Endian.{big_number, big_bytes}
use Rattle.byteorder.specs.Numbers.{big_from-lt, big_number-reads_back, length-bytes_high_first}
use Rattle.byte_forms.specs.Fields.{u32_form, u64_form}
use Rattle.content_codec.specs.Reading.{number_at, bytes_at}
use Rattle.content_codec.proofs.Readings.{AreBytes, Takes, IsReading, step_gives, some_is, bytes_again, bytes_reading}

-- the first of some bytes
AreBytes-front : (front rest : List ℕ) → AreBytes (front ++ rest) → AreBytes front
AreBytes-front front rest are i =
    elim (cases_lt i (length front)) [
      | inl lt ↦ rw (← get_or_append_left front rest 0 i lt) (are i)
      | inr le ↦ rw (get_or_past front i 0 le) (omega arith)
    ]

-- the bytes of a number of this size that were read are its bytes
abbrev WrittenBack : ℕ → Type 0
WrittenBack size =
    (front : List ℕ) → length front ≡ size → AreBytes front →
    big_bytes size (big_number size front) ≡ front

-- a number of this size
number_reading : (size : ℕ) → WrittenBack size →
    IsReading (λ n. big_bytes size n) (λ n. n < 256 ^ size) (number_at size)
unfolding number_at
number_reading size back = record {
  again = λ n rest is.
      let same : big_number size (big_bytes size n) ≡ n =
      ap (big_number size) (sym (append-nil (big_bytes size n)))
      ∙ big_number-reads_back size n [] is in
      rw (bytes_again (big_bytes size n) rest size (length-bytes_high_first size n), same) refl;
  takes = λ bytes n rest are e.
      let x = step_gives (bytes_at size bytes) (λ x. Some (big_number size x.0, x.1)) (n, rest) e in
      let one = (bytes_reading size).takes bytes x.0.0 x.0.1 are x.1 in
      let front : AreBytes x.0.0 =
      let P : List ℕ → Type 0 = λ all. AreBytes all in
      AreBytes-front x.0.0 x.0.1 (subst P one.parts are) in
      let it : ℕ × List ℕ = (big_number size x.0.0, x.0.1) in
      let parts : bytes ≡ big_bytes size (big_number size x.0.0) ++ x.0.1 =
      one.parts ∙ ap (λ (t : List ℕ). t ++ x.0.1) (sym (back x.0.0 one.is front)) in
      let P : ℕ × List ℕ → Type 0 =
      λ q. Takes (λ n. big_bytes size n) (λ n. n < 256 ^ size) bytes q.0 q.1 in
      subst P (some_is it (n, rest) x.2)
      (record { is = big_from-lt 0 size x.0.0 front; parts = parts; rest_are = one.rest_are });
}

-- two bytes
pub u16_reading : IsReading (λ n. to_be_bytes w16 n) (λ n. n < 65536) (number_at 2)
u16_reading =
    number_reading 2 (λ front size are. be_bytes_2 front _ size are (omega arith))

-- four bytes
pub u32_reading : IsReading u32_form (λ n. n < 4294967296) (number_at 4)
unfolding u32_form
u32_reading =
    number_reading 4 (λ front size are. be_bytes_4 front _ size are (omega arith))

-- eight bytes
pub u64_reading : IsReading u64_form (λ n. n < 18446744073709551616) (number_at 8)
unfolding u64_form
u64_reading =
    number_reading 8 (λ front size are. be_bytes_8 front _ size are (omega arith))
