-- What stands at the front of bytes: a whole request of HTTP/1.1 (RFC 9112), a part of one, or what
-- is refused, with the status of the refusal.
use Rattle.std.specs.Prelude.{◌≡◌, ℕ, suc, ◌≤◌, ◌⊎◌, Bool, true, false, ◌==◌, ◌&&◌, ◌||◌, nat_lt, List, [], ◌∷◌, length, map, take, drop, count_by, bytes_eq, Option, Some, None, if◌then◌else◌}
use Rattle.std.specs.List.{before_first}
use Rattle.httparse.specs.Ascii.{line_feed, carriage_return}
use Rattle.httparse.specs.Grammar.{RequestHead, ReadsRequest}
use Rattle.httparse.specs.Spans.{name_and_value}
use Rattle.http_model.specs.declared.method.Method.{Method}
use Rattle.http_model.specs.declared.method.Method.TheVariants.{Get, Post, Other}
use Rattle.http_model.specs.declared.words.TheConstants.{MAX_HEAD, MAX_LINE_ENDS, MAX_FIELDS, MAX_BODY, GET, POST}
use Rattle.http_model.specs.Fields.{Header, is_plain, body_length, token_of, asks_for_closing}

-- A request: its method, the target before its first `?`, its token, its body, and whether it asks
-- for the end of the connection.
pub record Request : Type 0 where
  pub method : Method
  pub path : List ℕ
  pub token : Option (List ℕ)
  pub body : List ℕ
  pub close : Bool

-- What stands at the front of bytes: a whole request and the bytes after it; less than one, which
-- more bytes may complete; or what is refused with a status.
pub data Front : Type 0 where
  whole : (request : Request) (rest : List ℕ) → Front
  part : Front
  refused : (status : ℕ) → Front

-- the bytes begin with LF
abbrev pub begins_with_lf : List ℕ → Bool
begins_with_lf [] = false
begins_with_lf (b ∷ bytes) = b == line_feed

-- the length of the line end at the front: 1 for LF, 2 for CR LF
abbrev pub line_end_length : List ℕ → Option ℕ
line_end_length [] = None
line_end_length (b ∷ bytes) =
    if b == line_feed
    then Some 1
    else (if (b == carriage_return) && begins_with_lf bytes then Some 2 else None)

-- the first of two places, where there is one
abbrev pub or_else : Option ℕ → Option ℕ → Option ℕ
or_else (Some n) later = Some n
or_else None later = later

-- the same place, counted from one byte before
abbrev pub one_more : Option ℕ → Option ℕ
one_more (Some n) = Some (suc n)
one_more None = None

-- The length of the head at the front: it ends after the first LF that a line end follows,
-- together with that line end.
abbrev pub head_length : List ℕ → Option ℕ
head_length [] = None
head_length (b ∷ bytes) =
    one_more (if b == line_feed
    then or_else (line_end_length bytes) (head_length bytes)
    else head_length bytes)

-- the method that these bytes name
abbrev pub method_named : List ℕ → Method
method_named name =
    if bytes_eq name GET.now then Get else (if bytes_eq name POST.now then Post else Other)

-- the target before its first `?`
abbrev pub path_in : List ℕ → List ℕ
path_in target = before_first (λ b. b == 63) target

-- the fields of a head, with their values without the spaces and tabs around them
abbrev pub headers_of : RequestHead → List Header
headers_of head = map name_and_value head.fields

-- whether a request of this minor version and with these fields asks for closing
abbrev pub closes : ℕ → List Header → Bool
closes minor headers = (minor == 0) || asks_for_closing headers

-- the request of a head and a body
abbrev pub request_of : RequestHead → List ℕ → Request
request_of head body =
    record {
      method = method_named head.method;
      path = path_in head.target;
      token = token_of (headers_of head);
      body = body;
      close = closes head.minor (headers_of head);
    }

-- The front that a head and the bytes after it make, where the body has so many bytes: 413 where
-- there are too many, a part where some are missing, else a whole request.
abbrev pub front_of_body : RequestHead → List ℕ → ℕ → Front
front_of_body head rest n =
    if nat_lt MAX_BODY n
    then refused 413
    else (if nat_lt (length rest) n
    then part
    else whole (request_of head (take n rest)) (drop n rest))

-- the same where the length of the body may be unknown, which is refused with 400
abbrev pub front_of_length : RequestHead → List ℕ → Option ℕ → Front
front_of_length head rest None = refused 400
front_of_length head rest (Some n) = front_of_body head rest n

-- the front that a head and the bytes after it make; one that tells of codings is refused with 400
unfoldable pub front_of_head : RequestHead → List ℕ → Front
front_of_head head rest =
    if is_plain (headers_of head)
    then front_of_length head rest (body_length (headers_of head))
    else refused 400

-- the bytes are exactly this head of the grammar, which has at most 64 fields
abbrev pub IsReadAs : List ℕ → RequestHead → Type 0
IsReadAs bytes head = ReadsRequest bytes head [] × (length head.fields ≤ MAX_FIELDS)

-- the bytes are no head of the grammar
abbrev pub IsUnreadable : List ℕ → Type 0
IsUnreadable bytes = (head : RequestHead) → IsReadAs bytes head → ⊥

-- the front by the bytes of the head and those after it: what the head makes, or 400 where it is
-- none of the grammar
abbrev pub IsReadFront : List ℕ → List ℕ → Front → Type 0
IsReadFront bytes rest front =
    ((head : RequestHead) × IsReadAs bytes head × (front ≡ front_of_head head rest))
    ⊎ (IsUnreadable bytes × (front ≡ refused 400))

-- the number of LF
abbrev pub line_ends : List ℕ → ℕ
line_ends bytes = count_by (λ b. b == line_feed) bytes

-- the same where the head may have too many lines, which is refused with 431 before it is read
abbrev pub IsLinedFront : List ℕ → List ℕ → Front → Bool → Type 0
IsLinedFront bytes rest front true = front ≡ refused 431
IsLinedFront bytes rest front false = IsReadFront bytes rest front

-- the front where the bytes of the head and those after it are known
abbrev pub IsHeadFront : List ℕ → List ℕ → Front → Type 0
IsHeadFront bytes rest front =
    IsLinedFront bytes rest front (nat_lt MAX_LINE_ENDS (line_ends bytes))

-- the front of bytes by the length of their head: where there is no head yet they are a part, and
-- refused with 431 once they are too many
abbrev pub IsFrontBy : List ℕ → Front → Option ℕ → Type 0
IsFrontBy bytes front None =
    front ≡ (if nat_lt (length bytes) MAX_HEAD then part else refused 431)
IsFrontBy bytes front (Some n) =
    IsHeadFront (take n bytes) (drop n bytes) front

-- The front of the bytes. The head is looked for in the first 16,384 bytes.
unfoldable pub IsFront : List ℕ → Front → Type 0
IsFront bytes front = IsFrontBy bytes front (head_length (take MAX_HEAD bytes))
