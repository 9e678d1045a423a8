-- The bytes that hexadecimal digits write, two digits at a time.
use Rattle.std.proofs.Common.{◌≡◌, ℕ, ◌+◌, ◌*◌, ◌<◌, ◌≤◌, List, [], ◌∷◌, ◌++◌, length, take, drop, get_or, Option, Some, None, refl, sym, ap, ◌∙◌, arith, append_assoc, slice_set}
use Rattle.std.specs.Prelude.{option_map, option_and_then}
use Rattle.std.proofs.lemmas.List.{take_more_set}
use Rattle.wire_model.specs.Forms.{hex_digit, hex_bytes}
use Rattle.api_routes.specs.Digests.{byte_written}

-- nothing stands before what is left at first
pub nothing-before : (left : Option (List ℕ)) → left ≡ option_map (λ more. [] ++ more) left
nothing-before (Some more) = refl
nothing-before None = refl

-- the first pair of digits writes the first byte
first-pair : (high low : ℕ) (rest : List ℕ) →
    hex_bytes (high ∷ low ∷ rest)
    ≡ option_and_then (λ b. option_map (λ more. b ∷ more) (hex_bytes rest)) (byte_written high low)
first-pair high low rest = by (hex_digit high) (hex_digit low)
  where
    by : (h l : Option ℕ) →
        option_and_then (λ h. option_and_then (λ l. option_map (λ more. (h * 16 + l) ∷ more)
        (hex_bytes rest)) l) h
        ≡ option_and_then (λ b. option_map (λ more. b ∷ more) (hex_bytes rest))
        (option_and_then (λ h. option_map (λ l. h * 16 + l) l) h)
    by (Some h) (Some l) = refl
    by (Some h) None = refl
    by None l = refl

-- a byte goes from what is left to what was read
byte-moved : (read : List ℕ) (b : ℕ) (left : Option (List ℕ)) →
    option_map (λ more. read ++ more) (option_map (λ more. b ∷ more) left)
    ≡ option_map (λ more. (read ++ b ∷ []) ++ more) left
byte-moved read b (Some more) = ap Some (sym (append_assoc read (b ∷ []) more))
byte-moved read b None = refl

-- what is left of two digits and more is those and the rest
two-more : (left : List ℕ) → 2 ≤ length left →
    left ≡ get_or left 0 0 ∷ get_or left 1 0 ∷ drop 2 left
two-more [] some = absurd (omega arith)
two-more (b ∷ []) some = absurd (omega arith)
two-more (b ∷ c ∷ left) some = refl

-- after a pair of digits the bytes have one more
pub pair-read : (text bytes left : List ℕ) (i b : ℕ) → i < length bytes → 2 ≤ length left →
    hex_bytes text ≡ option_map (λ more. take i bytes ++ more) (hex_bytes left) →
    byte_written (get_or left 0 0) (get_or left 1 0) ≡ Some b →
    hex_bytes text
    ≡ option_map (λ more. take (i + 1) (slice_set bytes i b) ++ more) (hex_bytes (drop 2 left))
pair-read text bytes left i b within some read is =
    let high = get_or left 0 0 in
    let low = get_or left 1 0 in
    read
    ∙ ap (λ xs. option_map (λ more. take i bytes ++ more) (hex_bytes xs)) (two-more left some)
    ∙ ap (λ o. option_map (λ more. take i bytes ++ more) o) (first-pair high low (drop 2 left))
    ∙ ap (λ o. option_map (λ more. take i bytes ++ more)
    (option_and_then (λ b. option_map (λ more. b ∷ more) (hex_bytes (drop 2 left))) o)) is
    ∙ byte-moved (take i bytes) b (hex_bytes (drop 2 left))
    ∙ ap (λ xs. option_map (λ more. xs ++ more) (hex_bytes (drop 2 left)))
    (sym (take_more_set bytes i b within))
