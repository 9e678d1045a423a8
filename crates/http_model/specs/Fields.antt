-- What the fields of a head say of its request (RFC 9110, section 5; RFC 9112, sections 5 to 9):
-- the length of the body, the token, and whether the connection ends.
use Rattle.std.specs.Prelude.{ℕ, Bool, ◌==◌, ◌&&◌, nat_le, nat_lt, List, [], ◌∷◌, length, map, take, drop, filter, Option, Some, None, if◌then◌else◌}
use Rattle.std.specs.Char.{is_ascii_digit, is_ascii_graphic}
use Rattle.std.specs.List.{list_all, list_any, slice_split}
use Rattle.std.specs.Str.{str_eq_ignore_ascii_case}
use Rattle.std.specs.Str.Parse.{digits_value}
use Rattle.httparse.specs.Ascii.{comma, space}
use Rattle.httparse.specs.Grammar.{trim_ows}
use Rattle.http_model.specs.declared.words.TheConstants.{CONTENT_LENGTH_NAME, TRANSFER_ENCODING_NAME, AUTHORIZATION_NAME, CONNECTION_NAME, BEARER, CLOSE, MAX_TOKEN}

-- the name of a field, and its value without the spaces and tabs around it
abbrev pub Header : Type 0
Header = List ℕ × List ℕ

-- two words are the same but for their case
abbrev pub is_same_word : List ℕ → List ℕ → Bool
is_same_word word other = str_eq_ignore_ascii_case word other

-- the fields of this name, in any case
abbrev pub fields_named : List ℕ → List Header → List Header
fields_named name headers = filter (λ header. is_same_word header.0 name) headers

-- the values of the fields of this name, in their order
unfoldable pub values_named : List ℕ → List Header → List (List ℕ)
values_named name headers = map (λ header. header.1) (fields_named name headers)

-- one or more decimal digits
abbrev pub is_digits : List ℕ → Bool
is_digits value = nat_lt 0 (length value) && list_all is_ascii_digit value

-- the number that digits write, whatever their count
abbrev pub number_in : List ℕ → Option ℕ
number_in value = if is_digits value then Some (digits_value 10 value) else None

-- what the values of the fields `Content-Length` say of the length of the body: 0 where there is no
-- such field, its number where there is one, and nothing where its value is no number or there are
-- more
abbrev pub length_in : List (List ℕ) → Option ℕ
length_in [] = Some 0
length_in (value ∷ []) = number_in value
length_in (value ∷ other ∷ more) = None

-- the length of the body
abbrev pub body_length : List Header → Option ℕ
body_length headers = length_in (values_named CONTENT_LENGTH_NAME.now headers)

-- there are no values
abbrev pub is_empty : List (List ℕ) → Bool
is_empty values = length values == 0

-- no field names a coding of the body
abbrev pub is_plain : List Header → Bool
is_plain headers = is_empty (values_named TRANSFER_ENCODING_NAME.now headers)

-- the bytes from the first that is no space
abbrev pub skip_spaces : List ℕ → List ℕ
skip_spaces [] = []
skip_spaces (b ∷ bytes) = if b == space then skip_spaces bytes else b ∷ bytes

-- a token has 1 to 128 bytes, each from `!` to `~`
abbrev pub is_token : List ℕ → Bool
is_token bytes =
    nat_lt 0 (length bytes) && (nat_le (length bytes) MAX_TOKEN && list_all is_ascii_graphic bytes)

-- the token after one or more spaces, and nothing else
abbrev pub token_behind : List ℕ → Option (List ℕ)
token_behind bytes =
    let token = skip_spaces bytes in
    if nat_lt (length token) (length bytes) && is_token token then Some token else None

-- the token in a value: after the word `Bearer` in any case
unfoldable pub token_in : List ℕ → Option (List ℕ)
token_in value =
    if is_same_word (take 6 value) BEARER.now then token_behind (drop 6 value) else None

-- the token in the values of the fields `Authorization`, of which there must be one
abbrev pub token_among : List (List ℕ) → Option (List ℕ)
token_among [] = None
token_among (value ∷ []) = token_in value
token_among (value ∷ other ∷ more) = None

-- the token of a head
abbrev pub token_of : List Header → Option (List ℕ)
token_of headers = token_among (values_named AUTHORIZATION_NAME.now headers)

-- a member is `close` in any case, without the spaces and tabs around it
abbrev pub is_close : List ℕ → Bool
is_close member = is_same_word (trim_ows member) CLOSE.now

-- a comma-separated member of the value is `close`
unfoldable pub has_close : List ℕ → Bool
has_close value = list_any is_close (slice_split (λ b. b == comma) value)

-- a field `Connection` asks for the end of the connection
abbrev pub asks_for_closing : List Header → Bool
asks_for_closing headers = list_any has_close (values_named CONNECTION_NAME.now headers)
