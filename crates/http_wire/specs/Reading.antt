-- What the reader of requests answers and remembers.
use Rattle.std.specs.Prelude.{◌≡◌, ℕ, ◌≤◌, ◌<◌, nat_lt, List, ◌++◌, length, take, drop, Option, Some, None, Result, Ok, Err, if◌then◌else◌}
use Rattle.std.specs.Option.{option_copied}
use Rattle.http_model.specs.declared.words.TheConstants.{MAX_HEAD, MAX_BODY}
use Rattle.http_model.specs.Fields.{Header, is_plain, body_length, token_of}
use Rattle.http_model.specs.Requests as model
use Rattle.http_model.specs.Requests.{Front, whole, part, refused, head_length, method_named, path_in, closes, IsHeadFront, IsFront}
use Rattle.http_wire.specs.declared.head.Head.{Head}
use Rattle.http_wire.specs.declared.next.Next.{Next}
use Rattle.http_wire.specs.declared.next.Next.TheVariants.{Whole, Partial, Refused}
use Rattle.http_wire.specs.declared.next.Request.{Request}
use Rattle.http_wire.specs.Scanning.{counted_from}

-- the request that a reader gave
abbrev pub request_of : Request → model.Request
request_of request =
    record {
      method = request.method;
      path = request.path.now;
      token = option_copied request.token;
      body = request.body.now;
      close = request.close;
    }

-- the answer is the front of the bytes
abbrev pub IsNext : List ℕ → Next → Type 0
IsNext bytes (Whole request n) =
    (n ≤ length bytes) × IsFront bytes (whole (request_of request) (drop n bytes))
IsNext bytes Partial = IsFront bytes part
IsNext bytes (Refused status) = IsFront bytes (refused status)

-- What a reader remembers: from where the end of the head is looked for, and how many bytes it
-- waits for.
pub record Scan : Type 0 where
  pub scanned : ℕ
  pub wanted : ℕ

-- What it remembers holds of these bytes with any others after them: no head ends before the place
-- from which it is looked for, and with fewer bytes than are waited for they are a part.
pub record Knows (scan : Scan) (bytes : List ℕ) : Type 0 where
  pub within : scan.scanned ≤ length (take MAX_HEAD bytes)
  pub search : (more : List ℕ) →
      head_length (take MAX_HEAD (bytes ++ more))
      ≡ counted_from scan.scanned (head_length (drop scan.scanned (take MAX_HEAD (bytes ++ more))))
  pub short : (more : List ℕ) → length (bytes ++ more) < scan.wanted → IsFront (bytes ++ more) part

-- what it remembers holds of any bytes
abbrev pub KnowsNothing : Scan → Type 0
KnowsNothing scan = (bytes : List ℕ) → Knows scan bytes

-- what it remembers after an answer: after a part, of the same bytes with more after them; and
-- else nothing
abbrev pub KnowsAfter : List ℕ → Scan → Next → Type 0
KnowsAfter bytes scan (Whole request n) = KnowsNothing scan
KnowsAfter bytes scan Partial = (more : List ℕ) → Knows scan (bytes ++ more)
KnowsAfter bytes scan (Refused status) = KnowsNothing scan

-- the request of a head and a body
abbrev pub with_body : Head → List ℕ → model.Request
with_body head body =
    record {
      method = head.method;
      path = head.path.now;
      token = option_copied head.token;
      body = body;
      close = head.close;
    }

-- the front that a head and the bytes after it make
abbrev pub front_behind : Head → List ℕ → Front
front_behind head rest =
    if nat_lt (length rest) head.length
    then part
    else whole (with_body head (take head.length rest)) (drop head.length rest)

-- the front that a head or a status makes of the bytes after
abbrev pub MakesFront : Result Head ℕ → (List ℕ → Front) → Type 0
MakesFront (Ok head) front =
    (rest : List ℕ) → front rest ≡ front_behind head rest
MakesFront (Err status) front =
    (rest : List ℕ) → front rest ≡ refused status

-- the request of these parts of a head
abbrev pub request_of_parts : List ℕ → List ℕ → ℕ → List Header → List ℕ → model.Request
request_of_parts name target minor headers body =
    record {
      method = method_named name;
      path = path_in target;
      token = token_of headers;
      body = body;
      close = closes minor headers;
    }

-- the front that the parts of a head and the bytes after it make, for a length of the body
abbrev pub front_of_size : List ℕ → List ℕ → ℕ → List Header → List ℕ → Option ℕ → Front
front_of_size name target minor headers rest None = refused 400
front_of_size name target minor headers rest (Some n) =
    if nat_lt MAX_BODY n
    then refused 413
    else (if nat_lt (length rest) n
    then part
    else whole (request_of_parts name target minor headers (take n rest)) (drop n rest))

-- the front that the parts of a head and the bytes after it make
abbrev pub front_of_parts : List ℕ → List ℕ → ℕ → List Header → List ℕ → Front
front_of_parts name target minor headers rest =
    if is_plain headers
    then front_of_size name target minor headers rest (body_length headers)
    else refused 400

-- what is read of a head, or its status, makes the front, whatever bytes are after
abbrev pub HasHeadFront : List ℕ → Result Head ℕ → Type 0
HasHeadFront bytes (Ok head) = (rest : List ℕ) → IsHeadFront bytes rest (front_behind head rest)
HasHeadFront bytes (Err status) = (rest : List ℕ) → IsHeadFront bytes rest (refused status)
