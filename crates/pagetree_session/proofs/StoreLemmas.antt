-- What a store stands for after a request, by what it asked for and how that went.
use Rattle.std.proofs.Common.{◌≡◌, ◌+◌, inl, inr, ℕ, List, [], ◌++◌, Option, Result, Ok, Err, IfOk, refl, sym, ap, subst, ◌∙◌}
use Rattle.std.proofs.lemmas.List.{append-nil}
use Rattle.disk_model.specs.Faults.{Rose}
use Rattle.disk_model.specs.Images.{EachHolds}
use Rattle.journal.specs.Form.{journal_file}
use Rattle.site_types.specs.declared.command.Command.{Command}
use Rattle.site_types.specs.declared.entry.Entry.{Entry}
use Rattle.site_types.specs.declared.refusal.Refusal.{Refusal}
use Rattle.site_types.specs.declared.reply.Reply.{Reply}
use Rattle.site_ids.specs.declared.no_memory.NoMemory.{NoMemory}
use Rattle.site_history.specs.History.{Item}
use Rattle.site_store.specs.declared.fault.CallFault.{CallFault}
use Rattle.site_store.specs.declared.fault.CallFault.TheVariants as faults
use Rattle.site_store.specs.Opening.{start}
use Rattle.site_store.specs.Running.{Answers, IsKeptAfter}
use Rattle.site_store.specs.Standing.{IsAt}
use Rattle.site_store.specs.Recovery.{IsKept, RecoversWith}
use Rattle.site_store.specs.History.{decide, next_entry, with_entry}
use Rattle.site_store.proofs.RunLemmas.{kept_recovers}
use Rattle.wire_model.specs.declared.answer.Answer.{Answer}
use Rattle.wire_model.specs.declared.answer.Answer.TheVariants as answers
use Rattle.wire_model.specs.Exchange.{Past, Outcome, tally_of, grown_by, decided, entry_of, run}
use Rattle.pagetree_session.specs.Standing.{Seen, IsReady, HasKept, GoesOn, RunsTo, Tells}

-- a history with nothing added is as it was
grown_by-nil : (past : Past) (items : List (Item Entry Reply)) → items ≡ [] →
    past ≡ grown_by past items
grown_by-nil past items none =
    let same : past.items ≡ past.items ++ items =
    sym (ap (λ (more : List (Item Entry Reply)). past.items ++ more) none
    ∙ append-nil past.items) in
    ap (λ (all : List (Item Entry Reply)). let p : Past = record { start = past.start; items = all } in p)
    same

-- whatever a crash leaves of a kept history's file recovers to its end, or to that with the entry in
-- doubt
pub kept_is_left : (store : Seen) (past : Past) → IsReady store past → HasKept store past →
    (doubt : Option Entry) × EachHolds store.past 3 (RecoversWith 1 start past doubt)
kept_is_left store past ready (doubt, kept) = (
  doubt,
  subst (λ (k : ℕ). EachHolds store.past (journal_file k) (RecoversWith k start past doubt)) ready.k
      (kept_recovers store.core store.log store.sizes past ready.at store.past start doubt kept),
)

module _ (honest : Type 0) (store : Seen) where
  -- a store that nothing was done to is where it was
  pub stays : (past : Past) → IsReady store past → GoesOn honest store past honest store past
  stays past ready = record { ready = ready; still_honest = λ h. h; kept = λ h kept. kept }

  -- an answer that adds nothing
  pub tells_runs : (past : Past) (outcome : Outcome) (answer : Answer) → IsReady store past →
      Tells outcome answer → RunsTo honest store past outcome answer honest store
  tells_runs past outcome answer ready (is, none) =
      (past, inl (is, grown_by-nil past outcome.added none, refl), stays past ready)

  -- the same of a result
  pub told_runs : (past : Past) (outcome : Outcome) (r : Result Answer NoMemory) →
      IsReady store past → IfOk r (Tells outcome) →
      IfOk r (λ answer. RunsTo honest store past outcome answer honest store)
  told_runs past outcome (Ok answer) ready is = tells_runs past outcome answer ready is
  told_runs past outcome (Err none) ready is = tt

-- what an entry gets, the command of it gets
run_is : (past : Past) (user moment : ℕ) (command : Command) (last : ℕ) (r : Result Reply Refusal) →
    last ≡ (tally_of past).number → decide past (next_entry last user moment command) ≡ r →
    run (tally_of past) user moment command
    ≡ decided (next_entry last user moment command) r
run_is past user moment command last r number is =
    let entry : entry_of user moment command ((tally_of past).number + 1)
    ≡ next_entry last user moment command =
    ap (λ (n : ℕ). entry_of user moment command (n + 1)) (sym number) in
    ap (λ (e : Entry). decided e (decide past e)) entry
    ∙ ap (decided (next_entry last user moment command)) is

module _ (honest still : Type 0) (before after : Seen) (past : Past) (user moment : ℕ)
    (command : Command) (ready : IsReady before past)
    (k : after.log.journal.k ≡ before.log.journal.k) (stays_honest : honest → still) where
  -- the entry of the command
  abbrev its_entry : Entry
  its_entry = next_entry before.log.number user moment command

  -- a command that is accepted is on the disk, and the history has it
  pub accepted_runs : (number : ℕ) (reply : Reply) → number ≡ its_entry.number →
      decide past its_entry ≡ Ok reply → after.count ≡ before.count →
      IsReady after (with_entry past its_entry reply) →
      (honest → HasKept before past → HasKept after (with_entry past its_entry reply)) →
      RunsTo honest before past (run (tally_of past) user moment command)
      (answers.Accepted number reply) still after
  accepted_runs number reply number_is is count ready_after kept =
      let ran = run_is past user moment command before.log.number (Ok reply) ready.at.number is in (
        with_entry past its_entry reply,
        inl (
          ap (λ (n : ℕ). answers.Accepted n reply) number_is ∙ sym (ap (λ (o : Outcome). o.answer) ran),
          ap (grown_by past) (sym (ap (λ (o : Outcome). o.added) ran)),
          count,
        ),
        record { ready = ready_after; still_honest = stays_honest; kept = kept },
      )

  -- a command that a rule refuses adds nothing
  pub refused_runs : (refusal : Refusal) → decide past its_entry ≡ Err refusal →
      after.count ≡ before.count → IsReady after past →
      (honest → HasKept before past → HasKept after past) →
      RunsTo honest before past (run (tally_of past) user moment command)
      (answers.Refused refusal) still after
  refused_runs refusal is count ready_after kept =
      let ran = run_is past user moment command before.log.number (Err refusal) ready.at.number is in (
        past,
        inl (
          sym (ap (λ (o : Outcome). o.answer) ran),
          grown_by-nil past _ (ap (λ (o : Outcome). o.added) ran),
          count,
        ),
        record { ready = ready_after; still_honest = stays_honest; kept = kept },
      )

  -- a disk that fails at a command that no rule refuses leaves the history as it was
  pub fault_runs : (reply : Reply) (first last : ℕ) → decide past its_entry ≡ Ok reply →
      first ≡ before.count → last ≡ after.count → Rose before.count after.count →
      IsReady after past → (honest → HasKept before past → HasKept after past) →
      RunsTo honest before past (run (tally_of past) user moment command)
      (answers.Disk first last) still after
  fault_runs reply first last is first_is last_is rose ready_after kept =
      let ran = run_is past user moment command before.log.number (Ok reply) ready.at.number is in (
        past,
        inr (
          (its_entry, reply, ap (λ (o : Outcome). o.added) ran),
          (λ i. answers.Disk (first_is i) (last_is i)),
          rose,
          refl,
        ),
        record { ready = ready_after; still_honest = stays_honest; kept = kept },
      )

  -- the same of a call that a rule refuses
  pub refused_result : (fault : CallFault) (refusal : Refusal) → fault ≡ faults.Refused refusal →
      Answers past its_entry before.count after.count (Err fault) → after.count ≡ before.count →
      IsAt after.core after.log after.sizes past →
      (honest → (doubt : Option Entry) → IsKept before.log before.past start past doubt →
      IsKeptAfter after.log after.past start past doubt its_entry (Err fault)) →
      RunsTo honest before past (run (tally_of past) user moment command)
      (answers.Refused refusal) still after
  refused_result fault refusal is told count at kept =
      refused_runs refusal
      (subst (λ (f : CallFault). Answers past its_entry before.count after.count (Err f)) is told)
      count (record { at = at; k = k ∙ ready.k })
      (λ h had. (
        had.0,
        subst (λ (f : CallFault). IsKeptAfter after.log after.past start past had.0 its_entry (Err f))
            is (kept h had.0 had.1),
      ))

  -- and of one at which the disk failed
  pub fault_result : (fault : CallFault) (first last : ℕ) → fault ≡ faults.Disk first last →
      Answers past its_entry before.count after.count (Err fault) →
      IsAt after.core after.log after.sizes past →
      (honest → (doubt : Option Entry) → IsKept before.log before.past start past doubt →
      IsKeptAfter after.log after.past start past doubt its_entry (Err fault)) →
      RunsTo honest before past (run (tally_of past) user moment command)
      (answers.Disk first last) still after
  fault_result fault first last is told at kept =
      let failed =
      subst (λ (f : CallFault). Answers past its_entry before.count after.count (Err f)) is told in
      fault_runs failed.0.0 first last failed.0.1 failed.1 failed.2 failed.3
      (record { at = at; k = k ∙ ready.k })
      (λ h had.
      let left = subst (λ (f : CallFault).
      IsKeptAfter after.log after.past start past had.0 its_entry (Err f)) is
      (kept h had.0 had.1) in
      (left.0, left.1))
