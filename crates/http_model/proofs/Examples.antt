-- The definitions at worked values: requests and refusals with their fronts, and the texts of
-- responses.
use Rattle.std.proofs.Common.{◌≡◌, ◌≤◌, ◌<◌, ◌+◌, ℕ, suc, zero, Bool, true, false, List, [], ◌∷◌, ◌++◌, length, Some, None, refl, codes, ap, sym, length-append, arith}
use lib.Utf8.{encode}
use Rattle.std.specs.Prelude.{All, take}
use Rattle.std.specs.Cmp.{first_so, second_so}
use Rattle.std.specs.Fmt.{digits}
use Rattle.std.specs.List.{list_all}
use Rattle.httparse.specs.Grammar.{crlf, Field, IsField, RequestHead, print_request, print_blank, print_section, print_end, AllPass, is_token_byte, is_value_byte, is_uri_byte, trim_ows}
use Rattle.httparse.proofs.OnLiterals.{httparse_on_literals}
use Rattle.std.proofs.lemmas.List.{append-nil}
use Rattle.http_model.specs.declared.method.Method.TheVariants.{Get, Post}
use Rattle.http_model.specs.declared.method.Allow.TheVariants.{Get as allow_get}
use Rattle.http_model.specs.declared.status.StatusCode.TheVariants.{Ok, Unauthorized, MethodNotAllowed, ContentTooLarge}
use Rattle.http_model.specs.Fields.{number_in, token_in, has_close, values_named}
use Rattle.http_model.specs.Requests.{Request, whole, part, refused, head_length, front_of_head, IsFront, IsReadAs}
use Rattle.http_model.specs.Responses.{response_text}
use Rattle.http_model.proofs.FrontLemmas.{front_of_read, front_of_unreadable}

-- the end of a line
abbrev line_end : List ℕ
line_end = 13 ∷ 10 ∷ []

-- a line with its end
abbrev line : List ℕ → List ℕ
line text = text ++ line_end

-- each byte passes a test that computes to true
all_pass : (test : ℕ → Bool) (bytes : List ℕ) → list_all test bytes ≡ true → AllPass test bytes
all_pass test [] all k d inside = absurd (omega arith)
all_pass test (b ∷ bytes) all zero d inside = first_so (test b) _ all
all_pass test (b ∷ bytes) all (suc k) d inside =
    all_pass test bytes (second_so (test b) _ all) k d (omega arith)

-- no field
no_fields : All IsField []
no_fields k d inside = absurd (omega arith)

-- one field more
more_fields : (field : Field) (fields : List Field) → IsField field → All IsField fields →
    All IsField (field ∷ fields)
more_fields field fields first others zero d inside = first
more_fields field fields first others (suc k) d inside = others k d (omega arith)

-- one field alone
one_is : (field : Field) → IsField field → All IsField (field ∷ [])
one_is field is = more_fields field [] is no_fields

-- two fields
two_are : (field other : Field) → IsField field → IsField other →
    All IsField (field ∷ other ∷ [])
two_are field other is are = more_fields field (other ∷ []) is (one_is other are)

-- a field line that ends in CR LF
abbrev field_of : List ℕ → List ℕ → Field
field_of name raw = record { name = name; raw = raw; end = crlf }

-- a request line and field lines that end in CR LF
abbrev head_of : List ℕ → List ℕ → ℕ → List Field → RequestHead
head_of method target minor fields =
    record {
      blank = [];
      method = method;
      target = target;
      minor = minor;
      line_end = crlf;
      fields = fields;
      last = crlf;
    }

-- the bytes of a request without fields and body
abbrev get_bytes : List ℕ
get_bytes = line (codes "GET / HTTP/1.1") ++ line_end

-- its request
abbrev get : Request
get = record { method = Get; path = codes "/"; token = None; body = []; close = false }

-- a request with the least that a head can have is read
get_is_read : IsReadAs get_bytes (head_of (codes "GET") (codes "/") 1 [])
unfolding httparse_on_literals encode
get_is_read = (
  (
    record {
      method = (omega arith, all_pass is_token_byte (codes "GET") refl);
      target = (omega arith, all_pass is_uri_byte (codes "/") refl);
      target_text = (codes "/", (refl, refl));
      minor = omega arith;
      fields = no_fields;
    },
    refl,
  ),
  omega arith,
)

-- the bytes are that request, and nothing is left
get_is_whole : IsFront get_bytes (whole get [])
unfolding front_of_head values_named httparse_on_literals
get_is_whole =
    front_of_read get_bytes 18 (head_of (codes "GET") (codes "/") 1 []) refl refl get_is_read

-- the same request of version 1.0
abbrev old_bytes : List ℕ
old_bytes = line (codes "GET /?a HTTP/1.0") ++ line_end

-- it is read
old_is_read : IsReadAs old_bytes (head_of (codes "GET") (codes "/?a") 0 [])
unfolding httparse_on_literals encode
old_is_read = (
  (
    record {
      method = (omega arith, all_pass is_token_byte (codes "GET") refl);
      target = (omega arith, all_pass is_uri_byte (codes "/?a") refl);
      target_text = (codes "/?a", (refl, refl));
      minor = omega arith;
      fields = no_fields;
    },
    refl,
  ),
  omega arith,
)

-- it asks for closing, and its path ends before the `?`
old_asks_for_closing : IsFront old_bytes (whole (record get { close = true }) [])
unfolding front_of_head values_named httparse_on_literals
old_asks_for_closing =
    front_of_read old_bytes 20 (head_of (codes "GET") (codes "/?a") 0 []) refl refl old_is_read

-- the body of a request for a page named home below the root, of 65 bytes
abbrev home_body : List ℕ
home_body = codes "{\"content\":{\"blocks\":[],\"title\":\"Home\"},\"parent\":1,\"slug\":\"home\"}"

-- its fields
abbrev home_fields : List Field
home_fields =
    field_of (codes "Authorization") (codes " Bearer abc")
    ∷ field_of (codes "Content-Length") (codes " 65") ∷ []

-- a POST with these fields
abbrev post_of : List Field → RequestHead
post_of fields = head_of (codes "POST") (codes "/api/pages") 1 fields

-- the bytes of that head
abbrev home_head : List ℕ
home_head =
    line (codes "POST /api/pages HTTP/1.1") ++ line (codes "Authorization: Bearer abc")
    ++ line (codes "Content-Length: 65") ++ line_end

-- the name is a token, and the value has no control bytes
is_field : (name raw : List ℕ) → 0 < length name → list_all is_token_byte name ≡ true →
    list_all is_value_byte raw ≡ true → IsField (field_of name raw)
is_field name raw some named value =
    record {
      name = (some, all_pass is_token_byte name named);
      raw = all_pass is_value_byte raw value;
    }

-- a POST is read where its fields are fields
post_is_read : (fields : List Field) → All IsField fields → length fields ≤ 2 →
    IsReadAs (print_request (post_of fields)) (post_of fields)
unfolding httparse_on_literals encode
post_is_read fields are few = (
  (
    record {
      method = (omega arith, all_pass is_token_byte (codes "POST") refl);
      target = (omega arith, all_pass is_uri_byte (codes "/api/pages") refl);
      target_text = (codes "/api/pages", (refl, refl));
      minor = omega arith;
      fields = are;
    },
    sym (append-nil _),
  ),
  omega arith,
)

-- that head is read
home_is_read : IsReadAs home_head (post_of home_fields)
unfolding httparse_on_literals
home_is_read =
    post_is_read home_fields
    (two_are (field_of (codes "Authorization") (codes " Bearer abc"))
    (field_of (codes "Content-Length") (codes " 65"))
    (is_field (codes "Authorization") (codes " Bearer abc") (omega arith) refl refl)
    (is_field (codes "Content-Length") (codes " 65") (omega arith) refl refl)) (omega arith)

-- the request
abbrev home : Request
home =
    record {
      method = Post;
      path = codes "/api/pages";
      token = Some (codes "abc");
      body = home_body;
      close = false;
    }

-- the bytes are the whole request, and what follows is left
home_is_whole : IsFront (home_head ++ home_body ++ codes "GET") (whole home (codes "GET"))
unfolding front_of_head values_named token_in has_close httparse_on_literals
home_is_whole =
    front_of_read (home_head ++ home_body ++ codes "GET") 75 (post_of home_fields) refl refl
    home_is_read

-- without its last byte it is a part
home_cut_is_part : IsFront (home_head ++ take 64 home_body) part
unfolding front_of_head values_named token_in has_close httparse_on_literals
home_cut_is_part =
    front_of_read (home_head ++ take 64 home_body) 75 (post_of home_fields) refl refl home_is_read

-- a coding of the body beside a length that is too large
abbrev coding_is_fields : List Field
coding_is_fields =
    field_of (codes "transfer-encoding") (codes " chunked")
    ∷ field_of (codes "Content-Length") (codes " 999999") ∷ []

-- it is refused for the coding
coding_is_refused : IsFront (print_request (post_of coding_is_fields)) (refused 400)
unfolding front_of_head values_named httparse_on_literals
coding_is_refused =
    front_of_read (print_request (post_of coding_is_fields)) 80 (post_of coding_is_fields) refl refl
    (post_is_read coding_is_fields
    (two_are (field_of (codes "transfer-encoding") (codes " chunked"))
    (field_of (codes "Content-Length") (codes " 999999"))
    (is_field (codes "transfer-encoding") (codes " chunked") (omega arith) refl refl)
    (is_field (codes "Content-Length") (codes " 999999") (omega arith) refl refl)) (omega arith))

-- two lengths, which are the same
abbrev lengths_are_fields : List Field
lengths_are_fields =
    field_of (codes "Content-Length") (codes "5")
    ∷ field_of (codes "content-length") (codes "5") ∷ []

-- they are refused
lengths_are_refused : IsFront (print_request (post_of lengths_are_fields)) (refused 400)
unfolding front_of_head values_named httparse_on_literals
lengths_are_refused =
    front_of_read (print_request (post_of lengths_are_fields)) 64 (post_of lengths_are_fields) refl
    refl
    (post_is_read lengths_are_fields
    (two_are (field_of (codes "Content-Length") (codes "5"))
    (field_of (codes "content-length") (codes "5"))
    (is_field (codes "Content-Length") (codes "5") (omega arith) refl refl)
    (is_field (codes "content-length") (codes "5") (omega arith) refl refl)) (omega arith))

-- a length that is too large by one
abbrev long_body_is_fields : List Field
long_body_is_fields =
    field_of (codes "Content-Length") (codes " 262145") ∷ []

-- it is refused before the body comes
long_body_is_refused : IsFront (print_request (post_of long_body_is_fields)) (refused 413)
unfolding front_of_head values_named httparse_on_literals
long_body_is_refused =
    front_of_read (print_request (post_of long_body_is_fields)) 52 (post_of long_body_is_fields)
    refl refl
    (post_is_read long_body_is_fields
    (one_is (field_of (codes "Content-Length") (codes " 262145"))
    (is_field (codes "Content-Length") (codes " 262145") (omega arith) refl refl)) (omega arith))

-- a head has more than four bytes
head_is_long : (head : RequestHead) → 5 ≤ length (print_request head)
unfolding print_request
head_is_long head =
    let version : List ℕ = codes "HTTP/1." ++ (48 + head.minor) ∷ [] in
    let front : List ℕ = print_blank head.blank ++ head.method in
    let behind : List ℕ =
    print_end head.line_end ++ print_section head.fields head.last in
    simp length-append (omega arith)

-- two empty lines are no head
blank_is_refused : IsFront (line_end ++ line_end) (refused 400)
blank_is_refused =
    front_of_unreadable (line_end ++ line_end) 4 refl refl
    (λ head read. let len = head_is_long head in
    let same : 4 ≡ length (print_request head ++ []) = ap length read.0.1 in
    absurd (omega (arith, same, len, ap length (append-nil (print_request head)))))

-- where a head ends: after the first LF that a line end follows
heads_end : (head_length (codes "a\n\nb") ≡ Some 3) × (head_length (codes "a\r\n\r\n\n") ≡ Some 5)
    × (head_length (codes "a\n\r\n") ≡ Some 4) × (head_length (codes "\r\na\n\r") ≡ None)
heads_end = (refl, refl, refl, refl)

-- numbers of any count of digits
numbers : (number_in (codes "00065") ≡ Some 65) × (number_in [] ≡ None)
    × (number_in (codes "+5") ≡ None) × (number_in (codes "5, 5") ≡ None)
    × (number_in (codes "99999999999999999999") ≡ Some 99999999999999999999)
numbers = (refl, refl, refl, refl, refl)

-- tokens: the word in any case, one or more spaces, and 1 to 128 visible bytes
tokens : (token_in (codes "bEaReR  abc") ≡ Some (codes "abc"))
    × (token_in (codes "Bearer a b") ≡ None) × (token_in (codes "Bearer") ≡ None)
    × (token_in (codes "Bearerabc") ≡ None) × (token_in (codes "Basic abc") ≡ None)
unfolding token_in
tokens = (refl, refl, refl, refl, refl)

-- members of a field `Connection`
closings : (has_close (codes "keep-alive, Close") ≡ true) × (has_close (codes "closed") ≡ false)
    × (has_close (codes "close") ≡ true) × (has_close (codes "not close") ≡ false)
    × (has_close (codes ",\tCLOSE ,x") ≡ true)
unfolding has_close trim_ows
closings = (refl, refl, refl, refl, refl)

-- the answer to a request that was accepted
ok_text : response_text (record { status = Ok; body = codes "{\"entry\":1}"; allow = None }) false
    ≡ line (codes "HTTP/1.1 200 OK") ++ line (codes "Content-Length: 11")
    ++ line (codes "Content-Type: application/json") ++ line_end ++ codes "{\"entry\":1}"
unfolding response_text digits
ok_text = refl

-- the answer to one whose token nobody has
unauthorized_text : response_text (record { status = Unauthorized; body = []; allow = None }) false
    ≡ line (codes "HTTP/1.1 401 Unauthorized") ++ line (codes "Content-Length: 0")
    ++ line (codes "Content-Type: application/json") ++ line (codes "WWW-Authenticate: Bearer")
    ++ line_end
unfolding response_text digits
unauthorized_text = refl

-- the answer to another method than the route's
method_text : response_text
    (record { status = MethodNotAllowed; body = []; allow = Some allow_get })
    false ≡ line (codes "HTTP/1.1 405 Method Not Allowed") ++ line (codes "Content-Length: 0")
    ++ line (codes "Content-Type: application/json") ++ line (codes "Allow: GET") ++ line_end
unfolding response_text digits
method_text = refl

-- the answer to a body that is too long, after which the connection ends
too_large_text : response_text (record {
  status = ContentTooLarge;
  body =
      codes "{\"error\":\"TooLarge\"}";
  allow = None;
}) true
    ≡ line (codes "HTTP/1.1 413 Content Too Large") ++ line (codes "Content-Length: 20")
    ++ line (codes "Content-Type: application/json") ++ line (codes "Connection: close")
    ++ line_end ++ codes "{\"error\":\"TooLarge\"}"
unfolding response_text digits
too_large_text = refl
