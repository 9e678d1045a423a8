-- What a call runs to, by the user who is known and by what the call asks for.
use Rattle.std.proofs.Common.{◌≡◌, ℕ, List, Option, Some, Result, IfOk, sym, ap, subst, ◌∙◌}
use Rattle.site_ids.specs.declared.no_memory.NoMemory.{NoMemory}
use Rattle.site_core.specs.Standing as cores
use Rattle.site_core.specs.declared.state.Core.{Core}
use Rattle.site_model.specs.World.{World}
use Rattle.sight_model.specs.Cards.{answer_of}
use Rattle.wire_model.specs.declared.answer.Answer.{Answer}
use Rattle.wire_model.specs.declared.call.Call.{Call}
use Rattle.wire_model.specs.declared.call.Call.TheVariants.{Public}
use Rattle.wire_model.specs.Exchange.{Past, Outcome, tally_of, user_of, public_told, called, called_by, called_with}
use Rattle.pagetree_session.specs.Standing.{Seen, IsReady, RunsTo, Tells}
use Rattle.pagetree_session.proofs.StoreLemmas.{told_runs}

-- what is in a store's memory is ready
pub core_ready : (store : Seen) (past : Past) → IsReady store past → (core : Core) →
    core ≡ store.core → cores.IsReady core (tally_of past).world
core_ready store past ready core is =
    subst (λ (c : Core). cores.IsReady c (tally_of past).world) (sym is) ready.at.ready

module _ (store : Seen) (past : Past) (ready : IsReady store past) (moment : ℕ)
    (token : Option (List ℕ)) (call : Call) where
  -- a call by a user who is known comes to what it comes to by that user
  pub known_call : (core : Core) (found : Option ℕ) (user : ℕ) (asked : Call) →
      core ≡ store.core →
      ((world : World) → cores.IsReady core world → found ≡ user_of world token) →
      found ≡ Some user → call ≡ asked →
      called_with (tally_of past) moment token asked
      ≡ called_by (tally_of past) moment asked (user_of (tally_of past).world token) →
      called (tally_of past) user moment asked ≡ called_with (tally_of past) moment token call
  known_call core found user asked core_is known is call_is by =
      let user_is : Some user ≡ user_of (tally_of past).world token =
      sym is ∙ known (tally_of past).world (core_ready store past ready core core_is) in
      ap (called_by (tally_of past) moment asked) user_is
      ∙ (sym by ∙ ap (called_with (tally_of past) moment token) (sym call_is))

  -- a call for everybody comes to what the URL shows
  pub public_call : (url shown : List ℕ) → shown ≡ url → call ≡ Public url →
      public_told (answer_of (tally_of past).world shown)
      ≡ called_with (tally_of past) moment token call
  public_call url shown is call_is =
      ap (λ (u : List ℕ). public_told (answer_of (tally_of past).world u)) is
      ∙ ap (called_with (tally_of past) moment token) (sym call_is)

  -- what the call comes to runs
  pub call_runs : (honest still : Type 0) (after : Seen) (outcome : Outcome)
      (r : Result Answer NoMemory) → outcome ≡ called_with (tally_of past) moment token call →
      IfOk r (λ answer. RunsTo honest store past outcome answer still after) →
      IfOk r (λ answer. RunsTo honest store past (called_with (tally_of past) moment token call)
      answer still after)
  call_runs honest still after outcome r is runs =
      subst (λ (o : Outcome). IfOk r (λ answer. RunsTo honest store past o answer still after)) is
      runs

  -- what is read is told, and adds nothing
  pub read_runs : (honest : Type 0) (outcome : Outcome) (r : Result Answer NoMemory) →
      outcome ≡ called_with (tally_of past) moment token call → IfOk r (Tells outcome) →
      IfOk r (λ answer. RunsTo honest store past (called_with (tally_of past) moment token call)
      answer honest store)
  read_runs honest outcome r is told =
      call_runs honest honest store outcome r is (told_runs honest store past outcome r ready told)
