-- Laws of transcripts: what they leave, and that there is one.
use Rattle.std.proofs.Common.{◌≡◌, ◌≤◌, ◌+◌, ℕ, Bool, true, false, List, [], ◌∷◌, ◌++◌, length, Option, Some, None, Result, Ok, Err, refl, sym, ap, subst, ◌∙◌, inl, inr, arith, length-append}
use Rattle.std.proofs.lemmas.Bool.{cases_lt}
use Rattle.std.proofs.lemmas.List.{append-nil}
use Rattle.std.specs.Prelude.{IsSome, IfSome, IsTrue}
use Rattle.site_types.specs.Content.{ContentValue}
use Rattle.site_types.specs.declared.command.Command.{Command}
use Rattle.site_types.specs.declared.entry.Entry.{Entry}
use Rattle.site_types.specs.declared.refusal.Refusal.{Refusal}
use Rattle.site_types.specs.declared.reply.Reply.{Reply}
use Rattle.site_history.specs.History.{Tally, Item, tick, tick_all, AllMayStand, decide}
use Rattle.site_model.specs.World.{World}
use Rattle.site_model.specs.Desks.{text_at}
use Rattle.http_model.specs.Requests.{Request, whole, IsFront}
use Rattle.http_model.proofs.FrontLemmas.{one_front}
use Rattle.http_model.proofs.FinalLemmas.{final_stays}
use Rattle.public_view.specs.declared.card.Card.{Card}
use Rattle.wire_model.specs.declared.call.Call.{Call}
use Rattle.wire_model.specs.declared.call.Call.TheVariants.{Run, Page, Refs, Desk, Public}
use Rattle.wire_model.specs.declared.call.RouteFault.{RouteFault}
use Rattle.sight_model.specs.Cards.{card_of, answer_of}
use Rattle.sight_model.specs.References.{refs_shown}
use Rattle.wire_model.specs.Routes.{call_of}
use Rattle.wire_model.specs.Exchange.{Past, IsLegal, decider, tally_of, user_of, entry_of, Outcome, decided, run, card_told, refs_told, desk_told, public_told, called, called_by, called_with, asked, exchange}
use Rattle.wire_model.specs.Transcript.{Told, outcome, after_told, Gets, IsDecided, IsPlain, ArePlain, EndsWhereClosing, Follows, closes, HasMoments}
use Rattle.wire_model.specs.Laws.{AsksNothing}

-- what is added may stand after a history
abbrev AddsLegal : Tally World → Outcome → Type 0
AddsLegal tally added = AllMayStand decider tally added.added

-- an entry with the next number is added legally
decided_legal : (tally : Tally World) (entry : Entry) (r : Result Reply Refusal) →
    decide decider tally entry ≡ r → entry.number ≡ tally.number + 1 →
    AddsLegal tally (decided entry r)
decided_legal tally entry (Ok reply) is next = ((next, is), tt)
decided_legal tally entry (Err refusal) is next = tt

-- a command is added legally
run_legal : (tally : Tally World) (user moment : ℕ) (command : Command) →
    AddsLegal tally (run tally user moment command)
run_legal tally user moment command =
    let entry : Entry = entry_of user moment command (tally.number + 1) in
    decided_legal tally entry (decide decider tally entry) refl refl

-- a card adds nothing
card_legal : (tally : Tally World) (id : ℕ) (card : Option Card) →
    AddsLegal tally (card_told id card)
card_legal tally id (Some card) = tt
card_legal tally id None = tt

-- neither does what is told of references
refs_legal : (tally : Tally World) (id : ℕ) (refs : Option (List ℕ)) →
    AddsLegal tally (refs_told id refs)
refs_legal tally id (Some refs) = tt
refs_legal tally id None = tt

-- the text of a desk adds nothing
desk_legal : (tally : Tally World) (text : Option ContentValue) → AddsLegal tally (desk_told text)
desk_legal tally (Some text) = tt
desk_legal tally None = tt

-- nor does a page for everybody
public_legal : (tally : Tally World) (card : Option Card) → AddsLegal tally (public_told card)
public_legal tally (Some card) = tt
public_legal tally None = tt

-- a call by a user is added legally
called_legal : (tally : Tally World) (user moment : ℕ) (call : Call) →
    AddsLegal tally (called tally user moment call)
called_legal tally user moment (Run command) = run_legal tally user moment command
called_legal tally user moment (Page id) = card_legal tally id (card_of tally.world id)
called_legal tally user moment (Refs id) = refs_legal tally id (refs_shown tally.world id)
called_legal tally user moment (Desk id) = desk_legal tally (text_at tally.world.desks id user)
called_legal tally user moment (Public url) = public_legal tally (answer_of tally.world url)

-- so is a call whose user is known or not
called_by_legal : (tally : Tally World) (moment : ℕ) (call : Call) (user : Option ℕ) →
    AddsLegal tally (called_by tally moment call user)
called_by_legal tally moment call (Some user) = called_legal tally user moment call
called_by_legal tally moment call None = tt

-- so is a call with a token
called_with_legal : (tally : Tally World) (moment : ℕ) (token : Option (List ℕ)) (call : Call) →
    AddsLegal tally (called_with tally moment token call)
called_with_legal tally moment token (Run command) =
    called_by_legal tally moment (Run command) (user_of tally.world token)
called_with_legal tally moment token (Page id) =
    called_by_legal tally moment (Page id) (user_of tally.world token)
called_with_legal tally moment token (Refs id) =
    called_by_legal tally moment (Refs id) (user_of tally.world token)
called_with_legal tally moment token (Desk id) =
    called_by_legal tally moment (Desk id) (user_of tally.world token)
called_with_legal tally moment token (Public url) =
    public_legal tally (answer_of tally.world url)

-- so is what a request asks for
asked_legal : (tally : Tally World) (moment : ℕ) (token : Option (List ℕ))
    (call : Result Call RouteFault) → AddsLegal tally (asked tally moment token call)
asked_legal tally moment token (Ok call) = called_with_legal tally moment token call
asked_legal tally moment token (Err fault) = tt

-- what a request comes to is added legally
exchange_legal : (tally : Tally World) (request : Request) (moment : ℕ) →
    AddsLegal tally (exchange tally request moment)
unfolding exchange
exchange_legal tally request moment = asked_legal tally moment request.token (call_of request)

-- legal items, and more that may stand after them, are legal together
AllMayStand-append : (tally : Tally World) (xs ys : List (Item Entry Reply)) →
    AllMayStand decider tally xs →
    AllMayStand decider (tick_all decider tally xs) ys →
    AllMayStand decider tally (xs ++ ys)
AllMayStand-append tally [] ys all next = next
AllMayStand-append tally (x ∷ xs) ys all next =
    (all.0, AllMayStand-append (tick decider tally x) xs ys all.1 next)

-- a request leaves a legal history legal
told_legal : (past : Past) (told : Told) → IsLegal past → IsLegal (after_told past told)
told_legal past told legal =
    record {
      start = legal.start;
      items = AllMayStand-append past.start past.items (outcome past told).added legal.items
          (exchange_legal (tally_of past) told.request told.moment);
    }

-- whatever a request gets, it leaves a legal history legal
gets_legal : (past next : Past) (before after : ℕ) (told : Told) → IsLegal past →
    Gets past before told next after → IsLegal next
gets_legal past next before after told legal (inl decided) =
    subst IsLegal (sym decided.1) (told_legal past told legal)
gets_legal past next before after told legal (inr (inl fault)) =
    subst IsLegal (sym fault.3) legal
gets_legal past next before after told legal (inr (inr lacks)) =
    subst IsLegal (sym lacks.2) legal

-- a transcript from a legal history on leaves a legal one
pub transcript_keeps_legal : (past after : Past) (count later : ℕ) (bytes rest : List ℕ)
    (told : List Told) → IsLegal past → Follows past count bytes told after later rest →
    IsLegal after
transcript_keeps_legal past after count later bytes rest [] legal h = rw (h.0) legal
transcript_keeps_legal past after count later bytes rest (x ∷ told) legal h =
    transcript_keeps_legal h.1 after h.2 later h.0 rest told
    (gets_legal past h.1 count h.2 x legal h.4) h.6

-- a whole request stays so when more bytes follow
whole_stays : (bytes more rest : List ℕ) (request : Request) → IsFront bytes (whole request rest) →
    IsFront (bytes ++ more) (whole request (rest ++ more))
whole_stays bytes more rest request is = final_stays bytes more (whole request rest) tt is

-- a transcript stays one when more bytes follow
pub transcript_stays : (past after : Past) (count later : ℕ) (bytes rest more : List ℕ)
    (told : List Told) → Follows past count bytes told after later rest →
    Follows past count (bytes ++ more) told after later (rest ++ more)
transcript_stays past after count later bytes rest more [] h =
    (h.0, h.1, ap (λ (bs : List ℕ). bs ++ more) h.2)
transcript_stays past after count later bytes rest more (x ∷ told) h = (
  h.0 ++ more,
  h.1,
  h.2,
  whole_stays bytes more h.0 x.request h.3,
  h.4,
  h.5,
  transcript_stays h.1 after h.2 later h.0 rest more told h.6,
)

-- two moments that a clock gives at one place are one
one_moment : (o : Option ℕ) (m n : ℕ) → IsSome o → IfSome o (λ moment. m ≡ moment) →
    IfSome o (λ moment. n ≡ moment) → m ≡ n
one_moment (Some moment) m n some h k = h ∙ sym k
one_moment None m n some h k = cc

-- two requests at the front of the same bytes are one, and so is what follows them
one_whole : (bytes rest left : List ℕ) (request other : Request) →
    IsFront bytes (whole request rest) → IsFront bytes (whole other left) →
    (request ≡ other) × (rest ≡ left)
one_whole bytes rest left request other is other_is =
    let same : whole request rest ≡ whole other left = one_front bytes _ _ is other_is in
    let requests : request ≡ other = cc in
    let rests : rest ≡ left = cc in
    (requests, rests)

-- two tellings of one request at one moment are one
one_told : (past : Past) (x y : Told) → x.request ≡ y.request → x.moment ≡ y.moment →
    x.answer ≡ (outcome past x).answer → y.answer ≡ (outcome past y).answer → x ≡ y
one_told past x y same at_once is other_is =
    let answers : x.answer ≡ y.answer =
    is ∙ (ap (λ (p : Request × ℕ). (exchange (tally_of past) p.0 p.1).answer)
    (λ i. (same i, at_once i)) ∙ sym other_is) in
    λ i. record { request = same i; moment = at_once i; answer = answers i }

-- an answer that tells neither of a fault nor of want of memory is decided by the history
plain_is_decided : (past next : Past) (before after : ℕ) (told : Told) → IsPlain told.answer →
    Gets past before told next after → IsDecided past before told next after
plain_is_decided past next before after told plain (inl decided) = decided
plain_is_decided past next before after told plain (inr (inl fault)) =
    absurd (subst IsPlain fault.1 plain)
plain_is_decided past next before after told plain (inr (inr lacks)) =
    absurd (subst IsPlain lacks.1 plain)

-- of two transcripts the longer begins with the shorter, and goes on from where that ended
pub longer_begins_with_shorter : (coming : ℕ → Option ℕ) (place : ℕ) (past after later : Past)
    (count first second : ℕ) (bytes rest left : List ℕ) (told other : List Told) →
    ArePlain told → ArePlain other →
    ((k : ℕ) → IsSome (coming k)) → HasMoments coming place told → HasMoments coming place other →
    Follows past count bytes told after first rest →
    Follows past count bytes other later second left →
    length told ≤ length other →
    (more : List Told) × (other ≡ told ++ more) × Follows after first rest more later second left
longer_begins_with_shorter coming place past after later count first second bytes rest left [] other
    p q tells m n h k le = (other, refl, rw (h.0, h.1, h.2) k)
longer_begins_with_shorter coming place past after later count first second bytes rest left
    (x ∷ told) [] p q tells m n h k le = absurd (omega arith)
longer_begins_with_shorter coming place past after later count first second bytes rest left
    (x ∷ told) (y ∷ other) p q tells m n h k le =
    let is = plain_is_decided past h.1 count h.2 x p.0 h.4 in
    let other_is = plain_is_decided past k.1 count k.2 y q.0 k.4 in
    let same = one_whole bytes h.0 k.0 x.request y.request h.3 k.3 in
    let at_once = one_moment (coming place) x.moment y.moment (tells place) m.0 n.0 in
    let alike : x ≡ y = one_told past x y same.0 at_once is.0 other_is.0 in
    let pasts : k.1 ≡ h.1 = other_is.1 ∙ (ap (after_told past) (sym alike) ∙ sym is.1) in
    let counts : k.2 ≡ h.2 = other_is.2 ∙ sym is.2 in
    let onward = subst (λ (t : Past × ℕ × List ℕ). Follows t.0 t.1 t.2 other later second left)
    (λ i. (pasts i, counts i, sym same.1 i)) k.6 in
    let rest_of = longer_begins_with_shorter coming (place + 1) h.1 after later h.2 first second h.0
    rest left told other p.1 q.1 tells m.1 n.1 h.6 onward (omega arith) in
    (rest_of.0, (λ i. sym alike i ∷ rest_of.1 i), rest_of.2)

-- no transcript goes on where as many requests are told
ends_alike : (after later : Past) (first second : ℕ) (rest left : List ℕ)
    (told other more : List Told) → length told ≡ length other → other ≡ told ++ more →
    Follows after first rest more later second left →
    (told ≡ other) × (after ≡ later) × (first ≡ second) × (rest ≡ left)
ends_alike after later first second rest left told other [] e is f =
    (sym (is ∙ append-nil told), sym f.0, sym f.1, sym f.2)
ends_alike after later first second rest left told other (x ∷ more) e is f =
    absurd (omega (arith, ap length is, length-append told (x ∷ more)))

-- there is one transcript of so many requests
pub one_transcript : (coming : ℕ → Option ℕ) (place : ℕ) (past after later : Past)
    (count first second : ℕ) (bytes rest left : List ℕ) (told other : List Told) →
    ArePlain told → ArePlain other →
    ((k : ℕ) → IsSome (coming k)) → HasMoments coming place told → HasMoments coming place other →
    Follows past count bytes told after first rest →
    Follows past count bytes other later second left →
    length told ≡ length other →
    (told ≡ other) × (after ≡ later) × (first ≡ second) × (rest ≡ left)
one_transcript coming place past after later count first second bytes rest left told other p q tells
    m n h k e =
    let both = longer_begins_with_shorter coming place past after later count first second bytes rest
    left told other p q tells m n h k (omega arith) in
    ends_alike after later first second rest left told other both.0 e both.1 both.2

-- where no request is left no transcript goes on
nothing_goes_on : (after later : Past) (first second : ℕ) (rest left : List ℕ)
    (told other more : List Told) → AsksNothing rest → other ≡ told ++ more →
    Follows after first rest more later second left → length other ≤ length told
nothing_goes_on after later first second rest left told other [] none is f =
    omega (arith, ap length (is ∙ append-nil told))
nothing_goes_on after later first second rest left told other (x ∷ more) none is f =
    absurd (none x.request f.0 f.3)

-- where no request is left at the end of a transcript no other is longer
pub nothing_asked_is_last : (coming : ℕ → Option ℕ) (place : ℕ) (past after later : Past)
    (count first second : ℕ) (bytes rest left : List ℕ) (told other : List Told) →
    ArePlain told → ArePlain other →
    ((k : ℕ) → IsSome (coming k)) → HasMoments coming place told → HasMoments coming place other →
    Follows past count bytes told after first rest →
    Follows past count bytes other later second left →
    AsksNothing rest → length other ≤ length told
nothing_asked_is_last coming place past after later count first second bytes rest left told other p q
    tells m n h k none =
    elim (cases_lt (length told) (length other)) [
      | inr le ↦ le
      | inl lt ↦ (let both = longer_begins_with_shorter coming place past after later count first
          second bytes rest left told other p q tells m n h k (omega arith) in
          nothing_goes_on after later first second rest left told other both.0 none both.1 both.2)
    ]

-- where a request that asks for closing is followed by nothing, so is it in each longer list
closing_goes_nowhere : (close : Bool) (more : List Told) → close ≡ true →
    EndsWhereClosing close more → more ≡ []
closing_goes_nowhere true more is ends = ends
closing_goes_nowhere false more is ends = cc

-- after a transcript whose last request asks for closing no other goes on
closed_goes_nowhere : (past later : Past) (count second : ℕ) (bytes left : List ℕ)
    (told more : List Told) → closes told ≡ true →
    Follows past count bytes (told ++ more) later second left → more ≡ []
closed_goes_nowhere past later count second bytes left [] more is f = cc
closed_goes_nowhere past later count second bytes left (x ∷ []) more is f =
    closing_goes_nowhere x.request.close more is f.5
closed_goes_nowhere past later count second bytes left (x ∷ y ∷ told) more is f =
    closed_goes_nowhere f.1 later f.2 second f.0 left (y ∷ told) more is f.6

-- so no other transcript is longer
pub closing_is_last : (coming : ℕ → Option ℕ) (place : ℕ) (past after later : Past)
    (count first second : ℕ) (bytes rest left : List ℕ) (told other : List Told) →
    ArePlain told → ArePlain other →
    ((k : ℕ) → IsSome (coming k)) → HasMoments coming place told → HasMoments coming place other →
    Follows past count bytes told after first rest →
    Follows past count bytes other later second left →
    IsTrue (closes told) → length other ≤ length told
closing_is_last coming place past after later count first second bytes rest left told other p q tells
    m n h k last =
    elim (cases_lt (length told) (length other)) [
      | inr le ↦ le
      | inl lt ↦ (let both = longer_begins_with_shorter coming place past after later count first
          second bytes rest left told other p q tells m n h k (omega arith) in
          let whole_of = subst (λ (os : List Told). Follows past count bytes os later second left)
          both.1 k in
          let none = closed_goes_nowhere past later count second bytes left told both.0 last whole_of
          in
          let same : other ≡ told = both.1 ∙ (ap (λ (os : List Told). told ++ os) none
          ∙ append-nil told) in
          omega (arith, ap length same))
    ]
