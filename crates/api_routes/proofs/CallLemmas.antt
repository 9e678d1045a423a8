-- What bodies, ids and public paths are by the definition.
use Rattle.std.proofs.Common.{◌≡◌, ◌≢◌, Result, Ok, Err, IfOk, IfErr, ℕ, suc, ◌+◌, ◌-◌, ◌*◌, ◌<◌, List, [], ◌∷◌, ◌++◌, length, get_or, min, None, Bool, true, false, ◌==◌, refl, ap, ◌∙◌, arith}
use Rattle.std.specs.Prelude.{if◌then◌else◌, IsErrOf}
use Rattle.std.specs.Str.{IsUtf8, is_utf8}
use Rattle.std.proofs.lemmas.Str.{IsUtf8-from_is_utf8, is_utf8-from_IsUtf8}
use Rattle.serde_json.specs.Read.{read}
use Rattle.http_model.specs.Requests.{Request}
use Rattle.site_types.specs.declared.command.Command.{Command}
use Rattle.block_content.specs.Reads.{Reads}
use Rattle.block_content.specs.declared.fault.ContentFault.{ContentFault}
use Rattle.block_content.specs.declared.fault.ContentFault.TheVariants.{Bad, Memory}
use Rattle.wire_model.specs.Routes.{Route, closed_path, route_of, call_on, call_of}
use Rattle.wire_model.specs.Forms.{data_of, text_of_body, command_asked}
use Rattle.wire_model.specs.declared.form.CommandForm.{CommandForm}
use Rattle.wire_model.specs.declared.call.Call.{Call}
use Rattle.wire_model.specs.declared.call.RouteFault.{RouteFault}
use Rattle.api_routes.specs.Calling.{ends_with_slash, Answers, MayWant}

-- a body that is not UTF-8 is no JSON
pub bad-body : (body : List ℕ) → (IsUtf8 body → ⊥) → data_of body ≡ None
bad-body body bad = by (is_utf8 body) refl
  where
    by : (v : Bool) → is_utf8 body ≡ v → (if v then read (text_of_body body) else None) ≡ None
    by true e = absurd (bad (IsUtf8-from_is_utf8 body e))
    by false e = refl

-- a body in UTF-8 is the JSON that its text is
pub body-read : (body : List ℕ) → IsUtf8 body → data_of body ≡ read (text_of_body body)
body-read body text = rw (is_utf8-from_IsUtf8 body text) refl

-- a number that is cut above the last id goes on as the whole number does
pub capped-more : (v n d m : ℕ) → n ≡ min v 1000001 → m ≡ min (n * 10 + d) 1000001 →
    m ≡ min (v * 10 + d) 1000001
capped-more v n d m is next = omega arith

-- a path that ends with `/` is closed
pub closed-already : (path : List ℕ) → ends_with_slash path ≡ true → closed_path path ≡ path
closed-already [] e = absurd (cc)
closed-already (b ∷ []) e = rw e refl
closed-already (b ∷ c ∷ path) e = ap (λ rest. b ∷ rest) (closed-already (c ∷ path) e)

-- a path that does not is closed by one
pub closed-by-slash : (path : List ℕ) → ends_with_slash path ≡ false →
    closed_path path ≡ path ++ 47 ∷ []
closed-by-slash [] e = refl
closed-by-slash (b ∷ []) e = rw e refl
closed-by-slash (b ∷ c ∷ path) e = ap (λ rest. b ∷ rest) (closed-by-slash (c ∷ path) e)

-- the last byte decides
pub last-decides : (path : List ℕ) → 0 < length path →
    (get_or path (length path - 1) 0 == 47) ≡ ends_with_slash path
last-decides [] some = absurd (omega arith)
last-decides (b ∷ []) some = refl
last-decides (b ∷ c ∷ path) some =
    let next : length (b ∷ c ∷ path) - 1 ≡ suc (length (c ∷ path) - 1) = omega arith in
    ap (λ k. get_or (b ∷ c ∷ path) k 0 == 47) next ∙ last-decides (c ∷ path) (omega arith)

-- if there is no JSON, no command is asked for
pub fault-read : (fault : ContentFault) (form : CommandForm) (body : List ℕ) →
    (fault ≡ Bad → data_of body ≡ None) →
    Reads {A = Command} (Err fault) (command_asked form body)
unfolding command_asked
fault-read Bad form body none = rw (none refl) refl
fault-read Memory form body none = tt

-- an answer on the route of a request is the answer to it
pub asked-on : (request : Request) (route : Route) (result : Result Call RouteFault) →
    route ≡ route_of request.path → Answers result (call_on route request) →
    Answers result (call_of request)
unfolding call_of
asked-on request route result is answers = rw (← is) answers

-- the answer is the call, where it is one
pub answers-ok : (result asked : Result Call RouteFault) → Answers result asked →
    IfOk result (λ call. asked ≡ Ok call)
answers-ok (Ok call) asked answers = answers
answers-ok (Err fault) asked answers = tt

-- the answer is the fault, if it is not that memory ran out
pub answers-err : (result asked : Result Call RouteFault) → Answers result asked →
    IfErr result (λ fault. (fault ≢ RouteFault.Memory) → asked ≡ Err fault)
answers-err (Ok call) asked answers = tt
answers-err (Err RouteFault.NotFound) asked answers = λ _. answers
answers-err (Err RouteFault.NotBuilt) asked answers = λ _. answers
answers-err (Err (RouteFault.Method allow)) asked answers = λ _. answers
answers-err (Err RouteFault.Form) asked answers = λ _. answers
answers-err (Err RouteFault.Memory) asked answers = λ other. absurd (other refl)

-- if the answer is that memory ran out, it may
pub answers-memory : (result asked : Result Call RouteFault) → Answers result asked →
    IsErrOf result RouteFault.Memory → MayWant asked
answers-memory result asked answers is = by result answers is
  where
    by : (result : Result Call RouteFault) → Answers result asked →
        IsErrOf result RouteFault.Memory → MayWant asked
    by (Ok call) answers is = absurd (cc)
    by (Err RouteFault.NotFound) answers is = absurd (cc)
    by (Err RouteFault.NotBuilt) answers is = absurd (cc)
    by (Err (RouteFault.Method allow)) answers is = absurd (cc)
    by (Err RouteFault.Form) answers is = absurd (cc)
    by (Err RouteFault.Memory) answers is = answers
