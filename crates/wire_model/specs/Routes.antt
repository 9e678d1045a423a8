-- The routes: which call the method, the path and the body of a request ask for.
use Rattle.std.specs.Prelude.{ℕ, Bool, ◌==◌, ◌&&◌, ◌||◌, not, List, [], ◌∷◌, map, length, take, drop, Option, Some, None, option_map, unwrap_or, Result, Ok, Err, bytes_eq, if◌then◌else◌}
use Rattle.std.specs.Bool.{then_some}
use Rattle.std.specs.Option.{option_or}
use Rattle.std.specs.List.{list_all}
use Rattle.std.specs.Char.{is_ascii_digit}
use Rattle.std.specs.Str.Parse.{digits_value}
use Rattle.http_model.specs.declared.method.Method.{Method}
use Rattle.http_model.specs.declared.method.Method.TheVariants.{Get, Post}
use Rattle.http_model.specs.declared.method.Allow.TheVariants as allows
use Rattle.http_model.specs.Requests.{Request}
use Rattle.json_model.specs.Members.{is_within}
use Rattle.site_ids.specs.declared.ids.TheConstants.{LAST_PAGE_ID}
use Rattle.wire_model.specs.declared.call.Call.{Call}
use Rattle.wire_model.specs.declared.call.Call.TheVariants.{Run, Page, Refs, Desk, Public}
use Rattle.wire_model.specs.declared.call.RouteFault.{RouteFault}
use Rattle.wire_model.specs.declared.call.RouteFault.TheVariants.{NotFound, NotBuilt, Method as WrongMethod, Form}
use Rattle.wire_model.specs.declared.form.CommandForm.{CommandForm}
use Rattle.wire_model.specs.declared.form.ReadForm.{ReadForm}
use Rattle.wire_model.specs.declared.form.ReadForm.TheVariants as reads
use Rattle.wire_model.specs.declared.routes.TheConstants.{COMMAND_ROUTES, READ_ROUTES}
use Rattle.wire_model.specs.declared.words.TheConstants.{API, API_FRONT, MAX_ID_DIGITS}
use Rattle.wire_model.specs.Tables.{named}
use Rattle.wire_model.specs.Forms.{command_asked}

-- What a path leads to: commands of a form; what is read of the page that a text names; a route
-- that is not built yet; no route; or a page for everybody.
pub data Route : Type 0 where
  command : (form : CommandForm) → Route
  read_named : (form : ReadForm) → (text : List ℕ) → Route
  unbuilt : Route
  nowhere : Route
  public_page : Route

-- the routes of commands: each path with the form of its commands, if the route is built
abbrev pub command_routes : List (List ℕ × Option CommandForm)
command_routes = map (λ row. (row.0.now, row.1)) COMMAND_ROUTES

-- the routes of reads: each front with what is read of the page named after it, if the route is
-- built
abbrev pub read_routes : List (List ℕ × Option ReadForm)
read_routes = map (λ row. (row.0.now, row.1)) READ_ROUTES

-- a part of a path: one or more bytes, none of them `/`
abbrev pub is_part : List ℕ → Bool
is_part text = not (length text == 0) && list_all (λ b. not (b == 47)) text

-- whether a path begins with this front
abbrev pub begins_with : List ℕ → List ℕ → Bool
begins_with front path = bytes_eq (take (length front) path) front

-- what stands in a path after this front
abbrev pub after_front : List ℕ → List ℕ → List ℕ
after_front front path = drop (length front) path

-- whether the path is this front and one part after it
abbrev pub has_part_after : List ℕ → List ℕ → Bool
has_part_after front path = begins_with front path && is_part (after_front front path)

-- the route of commands of a form, if it is built
abbrev pub command_route : Option CommandForm → Route
command_route (Some form) = command form
command_route None = unbuilt

-- the route that reads a form of the page that a text names, if it is built
abbrev pub read_route : List ℕ → Option ReadForm → Route
read_route text (Some form) = read_named form text
read_route text None = unbuilt

-- the route of reads of a path: the first of these whose front has one part after it
abbrev pub read_at : List (List ℕ × Option ReadForm) → List ℕ → Option Route
read_at [] path = None
read_at (row ∷ table) path =
    if has_part_after row.0 path
    then Some (read_route (after_front row.0 path) row.1)
    else read_at table path

-- the route of commands of a path
abbrev pub command_at : List (List ℕ × Option CommandForm) → List ℕ → Option Route
command_at table path = option_map command_route (named table path)

-- whether the path belongs to the API, so that everybody has no page there
abbrev pub is_api : List ℕ → Bool
is_api path = bytes_eq path API.now || begins_with API_FRONT.now path

-- where a path leads that is no route of the API
abbrev pub beside : List ℕ → Route
beside path = if is_api path then nowhere else public_page

-- what a path leads to
unfoldable pub route_of : List ℕ → Route
route_of path =
    unwrap_or (option_or (read_at read_routes path) (command_at command_routes path)) (beside path)

-- the page's id that a text of 1 to 7 digits writes: 1 to 1,000,000
abbrev pub id_written : List ℕ → Option ℕ
id_written text =
    then_some
    (is_within 1 MAX_ID_DIGITS (length text) && (list_all is_ascii_digit text
    && is_within 1 LAST_PAGE_ID (digits_value 10 text)))
    (digits_value 10 text)

-- what there is, or else a fault
abbrev pub or_fault : {A : Type 0} → Option A → RouteFault → Result A RouteFault
or_fault (Some a) fault = Ok a
or_fault None fault = Err fault

-- the path with a `/` at its end
abbrev pub closed_path : List ℕ → List ℕ
closed_path [] = 47 ∷ []
closed_path (b ∷ []) = if b == 47 then b ∷ [] else b ∷ 47 ∷ []
closed_path (b ∷ c ∷ path) = b ∷ closed_path (c ∷ path)

-- what is found by a method that must be `POST`
abbrev pub by_post : Method → Result Call RouteFault → Result Call RouteFault
by_post Post call = call
by_post method call = Err (WrongMethod allows.Post)

-- what is found by a method that must be `GET`
abbrev pub by_get : Method → Result Call RouteFault → Result Call RouteFault
by_get Get call = call
by_get method call = Err (WrongMethod allows.Get)

-- the call that reads a form of a page
abbrev pub read_call : ReadForm → ℕ → Call
read_call reads.Card id = Page id
read_call reads.Refs id = Refs id
read_call reads.Desk id = Desk id

-- what a request asks for on a route: the method is tried first, and then the form
abbrev pub call_on : Route → Request → Result Call RouteFault
call_on (command form) request =
    by_post request.method (or_fault (option_map Run (command_asked form request.body)) Form)
call_on (read_named form text) request =
    by_get request.method (or_fault (option_map (read_call form) (id_written text)) Form)
call_on unbuilt request = Err NotBuilt
call_on nowhere request = Err NotFound
call_on public_page request = by_get request.method (Ok (Public (closed_path request.path)))

-- what a request asks for
unfoldable pub call_of : Request → Result Call RouteFault
call_of request = call_on (route_of request.path) request
