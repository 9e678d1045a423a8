-- The laws of transcripts and of what requests ask for, each proved in src/laws.rt.
use Rattle.std.specs.Prelude.{◌≡◌, ◌↔◌, ℕ, ◌≤◌, List, ◌++◌, length, Option, Some, IsSome, IsTrue, Ok}
use Rattle.site_types.specs.declared.command.Command.{Command}
use Rattle.site_model.specs.Laws.{FitsCommand}
use Rattle.byte_forms.specs.Commands.{KeepsForm}
use Rattle.http_model.specs.Requests.{Request, whole, IsFront}
use Rattle.wire_model.specs.declared.call.Call.TheVariants.{Run}
use Rattle.civil_time.specs.TimeText.{IsTimeText}
use Rattle.wire_model.specs.Times.{time_of}
use Rattle.wire_model.specs.declared.form.CommandForm.{CommandForm}
use Rattle.wire_model.specs.Tables.{named}
use Rattle.wire_model.specs.Routes.{command_routes, call_of}
use Rattle.wire_model.specs.Exchange.{Past, IsLegal}
use Rattle.wire_model.specs.Transcript.{Told, Follows, ArePlain, HasMoments, closes}

-- A transcript stays one when more bytes follow, which then follow what was left; so it makes no
-- difference in which pieces the bytes come.
abbrev pub TranscriptStays : Type 0
TranscriptStays =
    (past after : Past) (count later : ℕ) (bytes rest more : List ℕ) (told : List Told) →
    Follows past count bytes told after later rest →
    Follows past count (bytes ++ more) told after later (rest ++ more)

-- a transcript from a legal history on leaves a legal history
abbrev pub TranscriptKeepsLegal : Type 0
TranscriptKeepsLegal =
    (past after : Past) (count later : ℕ) (bytes rest : List ℕ) (told : List Told) →
    IsLegal past → Follows past count bytes told after later rest → IsLegal after

-- Of two transcripts from one history, of the same bytes and with the moments of one clock, in which
-- no answer tells of a fault or of want of memory, the longer begins with the shorter, and goes on
-- from where that ended.
abbrev pub LongerBeginsWithShorter : Type 0
LongerBeginsWithShorter =
    (coming : ℕ → Option ℕ) (place : ℕ) (past after later : Past) (count first second : ℕ)
    (bytes rest left : List ℕ) (told other : List Told) →
    ArePlain told → ArePlain other →
    ((k : ℕ) → IsSome (coming k)) →
    HasMoments coming place told → HasMoments coming place other →
    Follows past count bytes told after first rest →
    Follows past count bytes other later second left →
    length told ≤ length other →
    (more : List Told) × (other ≡ told ++ more) × Follows after first rest more later second left

-- there is one transcript of so many requests whose answers are all decided by the history: its
-- answers, the history after it and what is left are determined
abbrev pub OneTranscript : Type 0
OneTranscript =
    (coming : ℕ → Option ℕ) (place : ℕ) (past after later : Past) (count first second : ℕ)
    (bytes rest left : List ℕ) (told other : List Told) →
    ArePlain told → ArePlain other →
    ((k : ℕ) → IsSome (coming k)) →
    HasMoments coming place told → HasMoments coming place other →
    Follows past count bytes told after first rest →
    Follows past count bytes other later second left →
    length told ≡ length other →
    (told ≡ other) × (after ≡ later) × (first ≡ second) × (rest ≡ left)

-- no whole request stands at the front of the bytes
abbrev pub AsksNothing : List ℕ → Type 0
AsksNothing bytes = (request : Request) (rest : List ℕ) → IsFront bytes (whole request rest) → ⊥

-- if no request is left at the end of a transcript, no other of the same bytes is longer
abbrev pub NothingAskedIsLast : Type 0
NothingAskedIsLast =
    (coming : ℕ → Option ℕ) (place : ℕ) (past after later : Past) (count first second : ℕ)
    (bytes rest left : List ℕ) (told other : List Told) →
    ArePlain told → ArePlain other →
    ((k : ℕ) → IsSome (coming k)) →
    HasMoments coming place told → HasMoments coming place other →
    Follows past count bytes told after first rest →
    Follows past count bytes other later second left →
    AsksNothing rest →
    length other ≤ length told

-- if the last request of a transcript asks for closing, no other of the same bytes is longer
abbrev pub ClosingIsLast : Type 0
ClosingIsLast =
    (coming : ℕ → Option ℕ) (place : ℕ) (past after later : Past) (count first second : ℕ)
    (bytes rest left : List ℕ) (told other : List Told) →
    ArePlain told → ArePlain other →
    ((k : ℕ) → IsSome (coming k)) →
    HasMoments coming place told → HasMoments coming place other →
    Follows past count bytes told after first rest →
    Follows past count bytes other later second left →
    IsTrue (closes told) →
    length other ≤ length told

-- commands of each form are posted to a route
abbrev pub EachFormHasARoute : Type 0
EachFormHasARoute =
    (form : CommandForm) → (path : List ℕ) × (named command_routes path ≡ Some (Some form))

-- each command that a request can ask for fits: its slug is by the rule of slugs, its content is
-- within its limits, its moments are moments, its digest has its bytes, its groups rise, and of
-- groups and tasks it has 1 to 16
abbrev pub RoutesFit : Type 0
RoutesFit =
    (request : Request) (command : Command) →
    call_of request ≡ Ok (Run command) → FitsCommand command

-- each command that a request can ask for keeps its form: its slug is not empty, and its groups or
-- tasks are 1 to 16 ids in their range
abbrev pub RoutesKeepForm : Type 0
RoutesKeepForm =
    (request : Request) (command : Command) →
    call_of request ≡ Ok (Run command) → KeepsForm command

-- a text is read as a moment exactly if it is that moment's text
abbrev pub TimesAreTexts : Type 0
TimesAreTexts =
    (text : List ℕ) (moment : ℕ) → (time_of text ≡ Some moment) ↔ IsTimeText text moment
