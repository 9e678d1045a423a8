-- What a request comes to, by what it asks for.
use Rattle.std.proofs.Common.{◌≡◌, inl, inr, ℕ, Result, Ok, Err, IfOk, refl, subst}
use Rattle.http_model.specs.Requests.{Request}
use Rattle.site_ids.specs.declared.no_memory.NoMemory.{NoMemory}
use Rattle.wire_model.specs.declared.answer.Answer.{Answer}
use Rattle.wire_model.specs.declared.call.Call.{Call}
use Rattle.wire_model.specs.declared.call.RouteFault.{RouteFault}
use Rattle.wire_model.specs.declared.call.RouteFault.TheVariants.{Memory}
use Rattle.wire_model.specs.Routes.{call_of}
use Rattle.wire_model.specs.Exchange.{Past, Outcome, tally_of, telling, called_with, fault_answer, exchange}
use Rattle.wire_model.specs.Transcript.{Told, Gets}
use Rattle.pagetree_session.specs.Standing.{Seen, IsReady, Answered, GetsBy, RunsTo}
use Rattle.pagetree_session.proofs.StoreLemmas.{tells_runs}

-- a request that asks for a call comes to what the call comes to
exchange_called : (past : Past) (request : Request) (moment : ℕ) (call : Call) →
    call_of request ≡ Ok call →
    called_with (tally_of past) moment request.token call ≡ exchange (tally_of past) request moment
unfolding exchange
exchange_called past request moment call is = rw is refl

-- a request that asks for none is told why
exchange_fault : (past : Past) (request : Request) (moment : ℕ) (fault : RouteFault) →
    call_of request ≡ Err fault →
    telling (fault_answer fault) ≡ exchange (tally_of past) request moment
unfolding exchange
exchange_fault past request moment fault is = rw is refl

module _ (honest still : Type 0) (before after : Seen) (request : Request) (moment : ℕ) where
  -- what is told of an answer to the request
  abbrev its_telling : Answer → Told
  its_telling answer = record { request = request; moment = moment; answer = answer }

  -- a request gets what its outcome is answered by
  gets_by : (past next : Past) (answer : Answer) (first last : ℕ) →
      GetsBy past (exchange (tally_of past) request moment) first answer next last →
      Gets past first (its_telling answer) next last
  gets_by past next answer first last (inl is) = inl is
  gets_by past next answer first last (inr fault) = inr (inl fault)

  -- what the call of a request runs to, the request is answered
  pub answered_by_call : (call : Call) (r : Result Answer NoMemory) → call_of request ≡ Ok call →
      ((past : Past) → IsReady before past →
      IfOk r (λ answer. RunsTo honest before past
      (called_with (tally_of past) moment request.token call) answer still after)) →
      IfOk r (λ answer. Answered honest before request moment answer still after)
  answered_by_call call (Ok answer) is runs = λ past ready.
      let ran = subst (λ (o : Outcome). RunsTo honest before past o answer still after)
      (exchange_called past request moment call is) (runs past ready) in
      (ran.0, gets_by past ran.0 answer before.count after.count ran.1, ran.2)
  answered_by_call call (Err none) is runs = tt

module _ (honest : Type 0) (store : Seen) (request : Request) (moment : ℕ) where
  -- a request that asks nothing of the site is told why, if memory sufficed
  pub answered_fault : (fault : RouteFault) (r : Result Answer NoMemory) →
      ((fault ≡ Memory → ⊥) → call_of request ≡ Err fault) →
      IfOk r (λ answer. (answer ≡ fault_answer fault) × (fault ≡ Memory → ⊥)) →
      IfOk r (λ answer. Answered honest store request moment answer honest store)
  answered_fault fault (Ok answer) is told = λ past ready.
      let ran = subst (λ (o : Outcome). RunsTo honest store past o answer honest store)
      (exchange_fault past request moment fault (is told.1))
      (tells_runs honest store past (telling (fault_answer fault)) answer ready (told.0, refl)) in (
        ran.0,
        gets_by honest honest store store request moment past ran.0 answer store.count store.count
            ran.1,
        ran.2,
      )
  answered_fault fault (Err none) is told = tt
