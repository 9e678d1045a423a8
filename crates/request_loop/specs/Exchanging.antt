-- What stands after the exchange of one request, whole or interrupted: over any answerer.
use Rattle.std.specs.Prelude.{◌≡◌, ℕ, ◌≤◌, Bool, List, Option, Result, Ok, Err, IfSome}
use Rattle.outside_world.specs.Sink.{with_back, AppendsPart}
use Rattle.outside_world.specs.declared.clock.TheConstants.{LAST_MOMENT}
use Rattle.http_model.specs.Requests.{Request}
use Rattle.wire_model.specs.declared.answer.Answer.{Answer}
use Rattle.wire_model.specs.Transcript.{answer_text}
use Rattle.request_loop.specs.declared.connection_end.ConnectionEnd.{ConnectionEnd}
use Rattle.request_loop.specs.declared.connection_end.ConnectionEnd.TheVariants.{WriteFault, Memory}
use Rattle.request_loop.specs.declared.exchange.Interrupted.{Interrupted}
use Rattle.request_loop.specs.declared.exchange.Interrupted.TheVariants.{BeforeAnswer, BeforeWriting, InWriting}

-- a request was answered, at the moment that the clock gave
pub record WasAnswered {A : Type 0}
    (answers : A → Request → ℕ → Answer → A → Type 0) (coming : Option ℕ) (request : Request)
    (first now : A) : Type 0 where
  pub moment : ℕ
  pub answer : Answer
  pub moment_is : IfSome coming (λ given. moment ≡ given)
  pub in_range : moment ≤ LAST_MOMENT
  pub answered : answers first request moment answer now

-- it was answered, and all of the answer was written
pub record WasWritten {A : Type 0}
    (answers : A → Request → ℕ → Answer → A → Type 0) (coming : Option ℕ) (request : Request)
    (last : Bool) (first now : A) (before after : Option (List ℕ)) : Type 0 where
  pub was : WasAnswered answers coming request first now
  pub written : after ≡ with_back before (answer_text was.answer last)

-- it was answered, and nothing of the answer was written
pub record WasKept {A : Type 0}
    (answers : A → Request → ℕ → Answer → A → Type 0) (coming : Option ℕ) (request : Request)
    (first now : A) (before after : Option (List ℕ)) : Type 0 where
  pub was : WasAnswered answers coming request first now
  pub written : after ≡ before

-- it was answered, and a first part of the answer was written
pub record WasBroken {A : Type 0}
    (answers : A → Request → ℕ → Answer → A → Type 0) (coming : Option ℕ) (request : Request)
    (last : Bool) (first now : A) (before after : Option (List ℕ)) : Type 0 where
  pub was : WasAnswered answers coming request first now
  pub written : AppendsPart before after (answer_text was.answer last)

-- what stands after the exchange, by how it went
abbrev pub Exchanges : {A : Type 0} → (A → Request → ℕ → Answer → A → Type 0) →
    (A → A → Type 0) → Option ℕ → Request → Bool → A → A → Option (List ℕ) →
    Option (List ℕ) → Result Unit Interrupted → Type 0
Exchanges answers gives_up coming request last first now before after (Ok _) =
    WasWritten answers coming request last first now before after
Exchanges answers gives_up coming request last first now before after (Err BeforeAnswer) =
    (after ≡ before) × gives_up first now
Exchanges answers gives_up coming request last first now before after (Err BeforeWriting) =
    WasKept answers coming request first now before after
Exchanges answers gives_up coming request last first now before after (Err InWriting) =
    WasBroken answers coming request last first now before after

-- what a response to an answer leaves in the sink, by how it went
abbrev pub Responds : Answer → Bool → Option (List ℕ) → Option (List ℕ) →
    Result Unit Interrupted → Type 0
Responds answer last before after (Ok _) = after ≡ with_back before (answer_text answer last)
Responds answer last before after (Err BeforeAnswer) = ⊥
Responds answer last before after (Err BeforeWriting) = after ≡ before
Responds answer last before after (Err InWriting) =
    AppendsPart before after (answer_text answer last)

-- what the text of a response leaves in the sink, by how it went: all of it, or a first part
abbrev pub Writes : List ℕ → Option (List ℕ) → Option (List ℕ) → Result Unit Interrupted → Type 0
Writes text before after (Ok _) = after ≡ with_back before text
Writes text before after (Err BeforeAnswer) = ⊥
Writes text before after (Err BeforeWriting) = ⊥
Writes text before after (Err InWriting) = AppendsPart before after text

-- the end of a connection whose exchange stopped
abbrev pub stopped_by : Interrupted → ConnectionEnd
stopped_by BeforeAnswer = Memory
stopped_by BeforeWriting = Memory
stopped_by InWriting = WriteFault
