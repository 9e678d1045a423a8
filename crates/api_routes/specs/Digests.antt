-- How the digits of a digest are read: two of them write a byte.
use Rattle.std.specs.Prelude.{ℕ, ◌+◌, ◌*◌, Option, option_map, option_and_then}
use Rattle.wire_model.specs.Forms.{hex_digit}

-- the byte that two lower-case hexadecimal digits write, the higher first
abbrev pub byte_written : ℕ → ℕ → Option ℕ
byte_written high low =
    option_and_then (λ h. option_map (λ l. h * 16 + l) (hex_digit low)) (hex_digit high)
