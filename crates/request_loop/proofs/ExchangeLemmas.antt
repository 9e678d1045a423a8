-- An exchange is an answer and a response to it.
use Rattle.std.proofs.Common.{◌≡◌, ℕ, Bool, List, Option, Result, Ok, Err, ap, subst, ◌∙◌}
use Rattle.outside_world.specs.Sink.{with_back, AppendsPart}
use Rattle.wire_model.specs.Transcript.{answer_text}
use Rattle.http_model.specs.Requests.{Request}
use Rattle.wire_model.specs.declared.answer.Answer.{Answer}
use Rattle.request_loop.specs.declared.exchange.Interrupted.{Interrupted}
use Rattle.request_loop.specs.declared.exchange.Interrupted.TheVariants.{BeforeAnswer, BeforeWriting, InWriting}
use Rattle.request_loop.specs.Exchanging.{WasAnswered, Exchanges, Responds, Writes}

-- a request that was answered, with what the response left
pub exchanges_by : {A : Type 0} → (answers : A → Request → ℕ → Answer → A → Type 0)
    (gives_up : A → A → Type 0) (coming : Option ℕ) (request : Request) (last : Bool)
    (first now : A) (before after : Option (List ℕ)) (r : Result Unit Interrupted)
    (was : WasAnswered answers coming request first now) →
    Responds was.answer last before after r →
    Exchanges answers gives_up coming request last first now before after r
exchanges_by answers gives_up coming request last first now before after (Ok _) was h =
    record { was = was; written = h }
exchanges_by answers gives_up coming request last first now before after (Err BeforeAnswer) was h =
    absurd h
exchanges_by answers gives_up coming request last first now before after (Err BeforeWriting) was h =
    record { was = was; written = h }
exchanges_by answers gives_up coming request last first now before after (Err InWriting) was h =
    record { was = was; written = h }

-- the text of a response was written, so it was responded
pub responds_by : (answer : Answer) (last : Bool) (text : List ℕ) (before after : Option (List ℕ))
    (r : Result Unit Interrupted) → text ≡ answer_text answer last → Writes text before after r →
    Responds answer last before after r
responds_by answer last text before after (Ok _) is h = h ∙ ap (with_back before) is
responds_by answer last text before after (Err BeforeAnswer) is h = absurd h
responds_by answer last text before after (Err BeforeWriting) is h = absurd h
responds_by answer last text before after (Err InWriting) is h =
    subst (AppendsPart before after) is h
