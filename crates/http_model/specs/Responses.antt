-- The texts of responses of HTTP/1.1 (RFC 9112), each with a body of JSON.
use Rattle.std.specs.Prelude.{ℕ, Bool, true, false, List, [], ◌++◌, length, Option, Some, None, codes}
use Rattle.std.specs.Fmt.{decimal}
use Rattle.http_model.specs.declared.method.Allow.{Allow}
use Rattle.http_model.specs.declared.method.Allow.TheVariants.{Get, Post}
use Rattle.http_model.specs.declared.status.StatusCode.{StatusCode}
use Rattle.http_model.specs.declared.status.StatusCode.TheVariants.{Ok, BadRequest, Unauthorized, Forbidden, NotFound, MethodNotAllowed, Conflict, ContentTooLarge, HeaderFieldsTooLarge, ServerError, NotImplemented, Unavailable}
use Rattle.http_model.specs.declared.words.TheConstants.{VERSION, CONTENT_LENGTH, CONTENT_TYPE, WWW_AUTHENTICATE, ALLOW_GET, ALLOW_POST, CONNECTION_CLOSE, LINE_END}

-- A response: its status, its body, and the one method that the route takes, if it names one.
pub record Response : Type 0 where
  pub status : StatusCode
  pub body : List ℕ
  pub allow : Option Allow

-- the number of a status
abbrev pub status_number : StatusCode → ℕ
status_number Ok = 200
status_number BadRequest = 400
status_number Unauthorized = 401
status_number Forbidden = 403
status_number NotFound = 404
status_number MethodNotAllowed = 405
status_number Conflict = 409
status_number ContentTooLarge = 413
status_number HeaderFieldsTooLarge = 431
status_number ServerError = 500
status_number NotImplemented = 501
status_number Unavailable = 503

-- the phrase of a status, in ASCII
abbrev pub phrase : StatusCode → List ℕ
phrase Ok = codes "OK"
phrase BadRequest = codes "Bad Request"
phrase Unauthorized = codes "Unauthorized"
phrase Forbidden = codes "Forbidden"
phrase NotFound = codes "Not Found"
phrase MethodNotAllowed = codes "Method Not Allowed"
phrase Conflict = codes "Conflict"
phrase ContentTooLarge = codes "Content Too Large"
phrase HeaderFieldsTooLarge = codes "Request Header Fields Too Large"
phrase ServerError = codes "Internal Server Error"
phrase NotImplemented = codes "Not Implemented"
phrase Unavailable = codes "Service Unavailable"

-- the status line, without its end
abbrev pub status_line : StatusCode → List ℕ
status_line status = VERSION.now ++ decimal (status_number status) ++ codes " " ++ phrase status

-- the line that a status asks for: 401 tells how to authorize
abbrev pub challenge : StatusCode → List ℕ
challenge Unauthorized = WWW_AUTHENTICATE.now
challenge status = []

-- the line that tells the one method that the route takes
abbrev pub allowed : Allow → List ℕ
allowed Get = ALLOW_GET.now
allowed Post = ALLOW_POST.now

-- that line of a response, where its status is 405
abbrev pub allowing : StatusCode → Option Allow → List ℕ
allowing MethodNotAllowed (Some allow) = allowed allow
allowing MethodNotAllowed None = []
allowing status allow = []

-- the line that announces the end of the connection, where it ends after this response
abbrev pub closing : Bool → List ℕ
closing true = CONNECTION_CLOSE.now
closing false = []

-- The text of a response: the status line, the lines on the body, those that the status asks for,
-- the announcement of the end, an empty line, and the body.
unfoldable pub response_text : Response → Bool → List ℕ
response_text response last =
    status_line response.status ++ LINE_END.now ++ CONTENT_LENGTH.now
    ++ decimal (length response.body) ++ LINE_END.now ++ CONTENT_TYPE.now
    ++ challenge response.status ++ allowing response.status response.allow ++ closing last
    ++ LINE_END.now ++ response.body
