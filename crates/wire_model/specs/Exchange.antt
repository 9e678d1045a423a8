-- The exchange of one request: which answer it gets after a history, and what that adds to it.
use Rattle.std.specs.Prelude.{ℕ, ◌+◌, List, [], ◌∷◌, ◌++◌, length, Option, Some, None, Result, Ok, Err}
use Rattle.sha2.specs.Sha256.{sha256}
use Rattle.site_types.specs.Content.{ContentValue}
use Rattle.site_types.specs.declared.command.Command.{Command}
use Rattle.site_types.specs.declared.entry.Entry.{Entry}
use Rattle.site_types.specs.declared.refusal.Refusal.{Refusal}
use Rattle.site_types.specs.declared.refusal.Refusal.TheVariants.{NoPage, NoDesk, LogFull}
use Rattle.site_types.specs.declared.reply.Reply.{Reply}
use Rattle.byte_forms.specs.Entries.{entry_form}
use Rattle.site_history.specs.Log.{journal_log}
use Rattle.site_history.specs.History.{Tally, History, Item, Decider, accepted}
use Rattle.site_history.specs.History as histories
use Rattle.site_model.specs.World.{World}
use Rattle.site_model.specs.Rights as rights
use Rattle.site_model.specs.Sound.{IsSound}
use Rattle.site_model.specs.Desks.{text_at}
use Rattle.site_model.specs.Step.{step}
use Rattle.http_model.specs.Requests.{Request}
use Rattle.public_view.specs.declared.card.Card.{Card}
use Rattle.wire_model.specs.declared.answer.Answer.{Answer}
use Rattle.wire_model.specs.declared.answer.Answer.TheVariants as answers
use Rattle.wire_model.specs.declared.call.Call.{Call}
use Rattle.wire_model.specs.declared.call.Call.TheVariants.{Run, Page, Refs, Desk, Public}
use Rattle.wire_model.specs.declared.call.RouteFault.{RouteFault}
use Rattle.wire_model.specs.declared.call.RouteFault.TheVariants as faults
use Rattle.sight_model.specs.Cards.{card_of, answer_of}
use Rattle.sight_model.specs.References.{refs_shown}
use Rattle.wire_model.specs.Routes.{call_of}

-- a history of the site
abbrev pub Past : Type 0
Past = History World Entry Reply

-- the number of an entry
abbrev pub number_of : Entry → ℕ
number_of entry = entry.number

-- how many bytes the form of an entry takes
abbrev pub entry_size : Entry → ℕ
entry_size entry = length (entry_form entry)

-- how entries are decided: by the step of the world, and then by the room in the journal, to which
-- each one that is accepted is written
abbrev pub decider : Decider World Entry Reply Refusal
decider =
    record {
      step = step;
      number_of = number_of;
      logging = journal_log entry_size;
      log_full = LogFull;
    }

-- what a history comes to
abbrev pub tally_of : Past → Tally World
tally_of past = histories.tally_of decider past

-- a legal history: it starts with a sound world, and each of its entries was accepted as it stands
abbrev pub IsLegal : Past → Type 0
IsLegal past = histories.IsLegal decider IsSound past

-- the history with these items at its end
abbrev pub grown_by : Past → List (Item Entry Reply) → Past
grown_by past items = record { start = past.start; items = past.items ++ items }

-- the user of a token: the one whose token has its SHA-256 digest (FIPS 180-4)
abbrev pub user_of : World → Option (List ℕ) → Option ℕ
user_of world None = None
user_of world (Some token) = rights.user_of (sha256 token) world.part.users

-- the entry of a command by a user at a moment, with a number
abbrev pub entry_of : ℕ → ℕ → Command → ℕ → Entry
entry_of user moment command number =
    record { number = number; moment = moment; caller = user; command = command }

-- What a request comes to: its answer, and what is added to the history.
pub record Outcome : Type 0 where
  pub answer : Answer
  pub added : List (Item Entry Reply)

-- an answer that adds nothing
abbrev pub telling : Answer → Outcome
telling answer = record { answer = answer; added = [] }

-- an entry by what is decided of it: it is added where it is accepted
abbrev pub decided : Entry → Result Reply Refusal → Outcome
decided entry (Ok reply) =
    record { answer = answers.Accepted entry.number reply; added = accepted entry reply ∷ [] }
decided entry (Err refusal) = telling (answers.Refused refusal)

-- what an entry gets after a history
abbrev pub entered : Tally World → Entry → Outcome
entered tally entry = decided entry (histories.decide decider tally entry)

-- a command by a user at a moment: what the entry with the next number gets
abbrev pub run : Tally World → ℕ → ℕ → Command → Outcome
run tally user moment command =
    entered tally (entry_of user moment command (tally.number + 1))

-- the card of a page, or that there is none
abbrev pub card_told : ℕ → Option Card → Outcome
card_told id (Some card) = telling (answers.Page card)
card_told id None = telling (answers.Refused (NoPage id))

-- the pages that link to a page, or that it is not there
abbrev pub refs_told : ℕ → Option (List ℕ) → Outcome
refs_told id (Some refs) = telling (answers.Refs refs)
refs_told id None = telling (answers.Refused (NoPage id))

-- what is written at the caller's desk on a page, or that the caller has none there
abbrev pub desk_told : Option ContentValue → Outcome
desk_told (Some text) = telling (answers.Desk text)
desk_told None = telling (answers.Refused NoDesk)

-- the card of the page that everybody may read at a URL, or that there is none
abbrev pub public_told : Option Card → Outcome
public_told (Some card) = telling (answers.Public card)
public_told None = telling answers.NotFound

-- what a call by a user comes to
abbrev pub called : Tally World → ℕ → ℕ → Call → Outcome
called tally user moment (Run command) = run tally user moment command
called tally user moment (Page id) = card_told id (card_of tally.world id)
called tally user moment (Refs id) = refs_told id (refs_shown tally.world id)
called tally user moment (Desk id) = desk_told (text_at tally.world.desks id user)
called tally user moment (Public url) = public_told (answer_of tally.world url)

-- what a call comes to, where its user is known or not
abbrev pub called_by : Tally World → ℕ → Call → Option ℕ → Outcome
called_by tally moment call (Some user) = called tally user moment call
called_by tally moment call None = telling answers.NoUser

-- what a call comes to: what is for everybody asks for no token
abbrev pub called_with : Tally World → ℕ → Option (List ℕ) → Call → Outcome
called_with tally moment token (Public url) = public_told (answer_of tally.world url)
called_with tally moment token call = called_by tally moment call (user_of tally.world token)

-- the answer to a request that asks nothing of the site
abbrev pub fault_answer : RouteFault → Answer
fault_answer faults.NotFound = answers.NotFound
fault_answer faults.NotBuilt = answers.NotBuilt
fault_answer (faults.Method allow) = answers.Method allow
fault_answer faults.Form = answers.Form
fault_answer faults.Memory = answers.Memory

-- what a request comes to, by what it asks for
abbrev pub asked : Tally World → ℕ → Option (List ℕ) → Result Call RouteFault → Outcome
asked tally moment token (Ok call) = called_with tally moment token call
asked tally moment token (Err fault) = telling (fault_answer fault)

-- What a request at a moment comes to: route, method and form are tried first, and then the user.
unfoldable pub exchange : Tally World → Request → ℕ → Outcome
exchange tally request moment = asked tally moment request.token (call_of request)
