-- What a command of a store gets and leaves, by how it went.
use Rattle.std.proofs.Common.{◌≡◌, ◌+◌, inl, inr, ℕ, true, false, List, [], ◌∷◌, ◌++◌, length, ◌≤◌, Option, None, Result, Ok, Err, IfSome, IfOk, OnOk, OnErr, IsErrOf, refl, sym, ◌∙◌, ap, subst}
use Rattle.disk_model.specs.Past.{Past}
use Rattle.disk_model.specs.Images.{EachHolds, LeavesOnly}
use Rattle.disk_model.specs.OneFile.{InFile}
use Rattle.disk_model.specs.Faults.{Rose}
use Rattle.disk_model.proofs.MomentLemmas.{LeavesOnly-wider}
use Rattle.disk_model.proofs.OneFileLemmas.{KeepsOthers-same, InFile-earlier, InFile-start}
use Rattle.site_ids.specs.Moment.{IsMoment}
use Rattle.site_types.specs.declared.command.Command.{Command}
use Rattle.site_types.specs.declared.entry.Entry.{Entry}
use Rattle.site_types.specs.declared.refusal.Refusal.TheVariants.{LogFull}
use Rattle.site_types.specs.declared.reply.Reply.{Reply}
use Rattle.site_types.specs.declared.world_rows.DeskRow.{DeskRow}
use Rattle.site_history.specs.History.{Tally}
use Rattle.site_history.specs.Log.{Log}
use Rattle.site_model.specs.World.{World}
use Rattle.site_model.specs.Laws.{FitsCommand}
use Rattle.site_model.specs.Step.{step, step_at}
use Rattle.site_model.proofs.ReachedSound.{step_keeps_reached}
use Rattle.journal.specs.Form.{journal_file}
use Rattle.site_part.proofs.StandingLemmas as parts_stand
use Rattle.site_part.specs.declared.fault.Fault.{Fault}
use Rattle.site_part.specs.declared.fault.Fault.TheVariants as plans
use Rattle.site_part.specs.declared.plan.Plan.{Plan}
use Rattle.site_core.specs.Standing as cores
use Rattle.site_core.specs.Texts.{AreDesks}
use Rattle.site_core.specs.declared.state.Core.{Core}
use Rattle.entry_log.specs.declared.draft.Draft.{Draft}
use Rattle.entry_log.specs.declared.log.EntryLog.{EntryLog}
use Rattle.entry_log.specs.Entries as entries_of
use Rattle.entry_log.specs.Log.{Keeps, KeepsAfterFault, MayBeLeft, MayFollow, entry_logging, log_in}
use Rattle.entry_log.proofs.EntryLemmas.{Keeps-recovers}
use Rattle.site_store.specs.declared.fault.CallFault.{CallFault}
use Rattle.site_store.specs.declared.fault.CallFault.TheVariants as faults
use Rattle.site_store.specs.declared.store.Accepted.{Accepted}
use Rattle.site_store.specs.Faults.{fault_told}
use Rattle.site_store.specs.History.{SiteHistory, tally_of, decide, MayCome, with_entry, next_entry}
use Rattle.site_store.specs.Recovery.{Stage, Leads, RecoversWith, RecoversAmong, MayComeNext, IsKept}
use Rattle.site_store.specs.Standing.{IsAt}
use Rattle.site_store.specs.Running.{Answers, history_after, IsKeptAfter}
use Rattle.site_store.proofs.HistoryLemmas.{tally-with_entry, decide-refused, decide-full, decide-ok, IsLegal-with_entry}
use Rattle.site_store.proofs.KeptLemmas.{Leads-push, recovers_with, recovers_among}

-- where all but the room is as it was, it stands for what it stood for
pub same_ready : (before after : Core) (world : World) → cores.IsSame before after
    → cores.IsReady before world → cores.IsReady after world
same_ready before after world same ready = record {
  stands = record {
    tree = parts_stand.same_stands before.tree after.tree world.part same.tree ready.stands.tree;
    desks = subst (λ (lists : List (List DeskRow)). AreDesks lists world.desks) (sym same.desks)
        ready.stands.desks;
  };
  reached = ready.reached;
}

-- a store that has other room, and a disk as it was, is where it was
pub IsAt-same : (before after : Core) (log : EntryLog) (sizes : ℕ → ℕ) (history : SiteHistory)
    → cores.IsSame before after → IsAt before log sizes history → IsAt after log sizes history
IsAt-same before after log sizes history same at = record {
  legal = at.legal;
  ready = same_ready before after _ same at.ready;
  number = at.number;
  written = at.written;
  reaches = at.reaches;
}

module _ (history : SiteHistory) (caller now : ℕ) (command : Command) (last : ℕ)
    (number : last ≡ (tally_of history).number) where
  -- the entry of the command
  abbrev its_entry : Entry
  its_entry = next_entry last caller now command

  -- what is told of a command that has no plan
  pub answers_fault : (core : Core) (fault : Fault) (before after : ℕ)
      → cores.Prepares (tally_of history).world now caller command core (Err fault)
      → Answers history its_entry before after (Err (fault_told fault))
  answers_fault core (plans.Refused refusal) before after is =
      decide-refused history its_entry refusal is
  answers_fault core plans.Memory before after is = tt

  module _ (log : EntryLog) (after : World) (reply : Reply)
      (step_is : step_at (tally_of history).world now caller command ≡ Ok (after, reply))
      (log_number : log.number ≡ last) (written : log_in log ≡ (tally_of history).log) where
    -- it is refused if the log is full
    pub decide_full : entry_logging.has_room log.number (log_in log) its_entry ≡ false
        → decide history its_entry ≡ Err LogFull
    decide_full full =
        decide-full history its_entry after reply step_is
        (rw (sym (log_number ∙ number), sym written) full)

    -- it is accepted if the log has room
    pub decide_ok : entry_logging.has_room log.number (log_in log) its_entry ≡ true
        → decide history its_entry ≡ Ok reply
    decide_ok room =
        decide-ok history its_entry after reply step_is
        (rw (sym (log_number ∙ number), sym written) room)

    -- it may come next then
    pub may_come : entry_logging.has_room log.number (log_in log) its_entry ≡ true
        → MayCome history its_entry reply
    may_come room = (ap (λ n. n + 1) number, decide_ok room)

-- what is on the disk after a command that has no plan
pub kept_fault : (log : EntryLog) (past : Past) (from : Stage) (history : SiteHistory)
    (doubt : Option Entry) (entry : Entry) (fault : Fault) → IsKept log past from history doubt
    → IsKeptAfter log past from history doubt entry (Err (fault_told fault))
kept_fault log past from history doubt entry (plans.Refused refusal) kept = kept
kept_fault log past from history doubt entry plans.Memory kept = kept

module _ (core : Core) (log : EntryLog) (sizes : ℕ → ℕ) (history : SiteHistory)
    (at : IsAt core log sizes history) where
  -- the number of the last entry of a history that is kept
  kept_number : (past : Past) (from : Stage) (doubt : Option Entry)
      (kept : IsKept log past from history doubt)
      → (tally_of history).number ≡ from.number + length kept.entries
  kept_number past from doubt kept = sym at.number ∙ kept.keeps.number

  -- whatever a crash leaves of a history that is kept recovers to its end, with the entry in doubt
  -- or without
  pub kept_recovers : (past : Past) (from : Stage) (doubt : Option Entry)
      → IsKept log past from history doubt
      → EachHolds past (journal_file log.journal.k)
      (RecoversWith log.journal.k from history doubt)
  kept_recovers past from doubt kept bytes held =
      recovers_with log.journal.k from history kept.entries kept.leads
      (kept_number past from doubt kept) doubt kept.next bytes
      (Keeps-recovers log past from.number kept.entries doubt kept.keeps bytes held)

  -- where nothing was written
  pub any_moment_still : (past : Past) (from : Stage) (doubt : Option Entry) (entry : Entry)
      → IsKept log past from history doubt
      → LeavesOnly past past (InFile past (journal_file log.journal.k)
      (RecoversAmong log.journal.k from history doubt entry))
  any_moment_still past from doubt entry kept =
      InFile-start past (journal_file log.journal.k) _
      (λ bytes held. inl (kept_recovers past from doubt kept bytes held))

  module _ (caller now : ℕ) (command : Command) (fits : FitsCommand command) (mid : Core)
      (plan : Plan)
      (has : cores.HasPlan mid (tally_of history).world now caller command plan) (draft : Draft)
      (draft_is : draft.entry ≡ next_entry log.number caller now command)
      (may : MayFollow log draft) where
    -- the entry
    abbrev the_entry : Entry
    the_entry = next_entry log.number caller now command

    -- there is room for it
    has_room : entry_logging.has_room log.number (log_in log) the_entry ≡ true
    has_room =
        subst (λ (e : Entry). entry_logging.has_room log.number (log_in log) e ≡ true) draft_is
        may.room

    -- its moment is one
    in_range : IsMoment now
    in_range = subst (λ (e : Entry). IsMoment e.moment) draft_is may.is.moment

    -- it may come next
    pub next_comes : (reply : Reply) → reply ≡ plan.reply → MayCome history the_entry reply
    next_comes reply is =
        subst (λ (r : Reply). MayCome history the_entry r) (sym (is ∙ has.reply_is))
        (may_come history caller now command log.number at.number log has.after has.reply has.step
        refl at.written has_room)

    -- the step of it
    step_told : (reply : Reply) → reply ≡ plan.reply
        → step (tally_of history).world the_entry ≡ Ok (has.after, reply)
    step_told reply is = has.step ∙ ap (λ (r : Reply). Ok (has.after, r)) (sym (is ∙ has.reply_is))

    -- after it was accepted the store is at the history with it
    at_accepted : (new : Core) (new_log : EntryLog) (new_sizes : ℕ → ℕ) (reply : Reply)
        → reply ≡ plan.reply → cores.StandsFor new has.after → new_log.number ≡ log.number + 1
        → log_in new_log ≡ entry_logging.logged (log_in log) draft.entry
        → new_log.journal.gate + 1 ≤ new_sizes (journal_file new_log.journal.k)
        → IsAt new new_log new_sizes (with_entry history the_entry reply)
    at_accepted new new_log new_sizes reply is stands number written reaches =
        let tally_is = tally-with_entry history the_entry reply has.after (step_told reply is) in
        let reached = step_keeps_reached (tally_of history).world has.after reply the_entry
        at.ready.reached in_range fits (step_told reply is) in
        record {
          legal = IsLegal-with_entry history the_entry reply at.legal (next_comes reply is);
          ready = subst (λ (t : Tally World). cores.IsReady new t.world) (sym tally_is)
              (record { stands = stands; reached = reached });
          number = subst (λ (t : Tally World). new_log.number ≡ t.number) (sym tally_is)
              (number ∙ ap (λ n. n + 1) at.number);
          written = subst (λ (t : Tally World). log_in new_log ≡ t.log) (sym tally_is)
              (written
              ∙ (ap (λ (e : Entry). entry_logging.logged (log_in log) e) draft_is
              ∙ ap (λ (l : Log). entry_logging.logged l the_entry) at.written));
          reaches = reaches;
        }

    -- after a call it is where the history is then
    pub at_after : (new : Core) (new_log : EntryLog) (new_sizes : ℕ → ℕ)
        (result : Result Accepted CallFault)
        → IfOk result (λ (a : Accepted). (a.number ≡ log.number + 1) × (a.reply ≡ plan.reply))
        → OnOk result (cores.StandsFor new has.after) → OnErr result (new ≡ mid)
        → OnOk result (new_log.number ≡ log.number + 1)
        → OnOk result (log_in new_log ≡ entry_logging.logged (log_in log) draft.entry)
        → OnErr result (new_log.number ≡ log.number) → OnErr result (log_in new_log ≡ log_in log)
        → new_log.journal.gate + 1 ≤ new_sizes (journal_file new_log.journal.k)
        → IsAt new new_log new_sizes (history_after history the_entry result)
    at_after new new_log new_sizes (Ok accepted) told stands same number written number_kept
        written_kept reaches =
        at_accepted new new_log new_sizes accepted.reply told.1 stands number written reaches
    at_after new new_log new_sizes (Err fault) told stands same number written number_kept
        written_kept reaches =
        record {
          legal = at.legal;
          ready = subst (λ (c : Core). cores.IsReady c (tally_of history).world) (sym same) has.ready;
          number = number_kept ∙ at.number;
          written = written_kept ∙ at.written;
          reaches = reaches;
        }

    -- what is on the disk after it was accepted
    kept_accepted : (new_log : EntryLog) (past new_past : Past) (from : Stage) (doubt : Option Entry)
        (kept : IsKept log past from history doubt) (reply : Reply) → reply ≡ plan.reply
        → Keeps new_log new_past from.number (kept.entries ++ draft.entry ∷ []) None
        → IsKept new_log new_past from (with_entry history the_entry reply) None
    kept_accepted new_log past new_past from doubt kept reply is keeps =
        let tally_is = tally-with_entry history the_entry reply has.after (step_told reply is) in
        record {
          entries = kept.entries ++ the_entry ∷ [];
          keeps = subst
              (λ (e : Entry). Keeps new_log new_past from.number (kept.entries ++ e ∷ []) None)
              draft_is keeps;
          leads = subst
              (λ (t : Tally World). Leads from.world (kept.entries ++ the_entry ∷ []) t.world)
              (sym tally_is)
              (Leads-push from.world (tally_of history).world has.after kept.entries the_entry reply
              kept.leads (step_told reply is));
          next = tt;
        }

    -- what is left in doubt may come next
    left_comes : (doubt left : Option Entry) → IfSome doubt (MayComeNext history)
        → MayBeLeft doubt the_entry left → IfSome left (MayComeNext history)
    left_comes doubt left next (inl none) =
        subst (λ (l : Option Entry). IfSome l (MayComeNext history)) (sym none) tt
    left_comes doubt left next (inr (inl same)) =
        subst (λ (l : Option Entry). IfSome l (MayComeNext history)) (sym same) next
    left_comes doubt left next (inr (inr same)) =
        subst (λ (l : Option Entry). IfSome l (MayComeNext history)) (sym same)
        (plan.reply, next_comes plan.reply refl)

    -- what is on the disk after a call
    pub kept_after : (new_log : EntryLog) (past new_past : Past) (from : Stage)
        (doubt : Option Entry) (kept : IsKept log past from history doubt)
        (result : Result Accepted CallFault) (first last : ℕ)
        → IfOk result (λ (a : Accepted). (a.number ≡ log.number + 1) × (a.reply ≡ plan.reply))
        → OnErr result (IsErrOf result (faults.Disk first last) × Rose first last)
        → OnOk result (Keeps new_log new_past from.number (kept.entries ++ draft.entry ∷ []) None)
        → OnErr result (KeepsAfterFault new_log new_past from.number kept.entries doubt draft.entry)
        → IsKeptAfter new_log new_past from history doubt the_entry result
    kept_after new_log past new_past from doubt kept (Ok accepted) first last told failed done left =
        kept_accepted new_log past new_past from doubt kept accepted.reply told.1 done
    kept_after new_log past new_past from doubt kept (Err (faults.Refused refusal)) first last told
        failed done left = absurd (cc)
    kept_after new_log past new_past from doubt kept (Err faults.Memory) first last told failed done
        left = absurd (cc)
    kept_after new_log past new_past from doubt kept (Err (faults.Disk before after)) first last told
        failed done (left, keeps, may_be) =
        let is_left = subst (λ (e : Entry). MayBeLeft doubt e left) draft_is may_be in (
          left,
          record {
            entries = kept.entries;
            keeps = keeps;
            leads = kept.leads;
            next = left_comes doubt left kept.next is_left;
          },
          is_left,
        )

    -- at any moment of a call
    pub any_moment_after : (past new_past : Past) (from : Stage) (doubt : Option Entry)
        (kept : IsKept log past from history doubt)
        → LeavesOnly past new_past (InFile past (journal_file log.journal.k)
        (entries_of.RecoversAmong log.journal.k from.number kept.entries doubt draft.entry))
        → LeavesOnly past new_past (InFile past (journal_file log.journal.k)
        (RecoversAmong log.journal.k from history doubt the_entry))
    any_moment_after past new_past from doubt kept only =
        LeavesOnly-wider past new_past _ _ (InFile-earlier past past (journal_file log.journal.k) _ _
        (KeepsOthers-same past past (journal_file log.journal.k) refl)
        (λ bytes is. recovers_among log.journal.k from history kept.entries kept.leads
        (kept_number past from doubt kept) doubt kept.next the_entry
        (plan.reply, next_comes plan.reply refl) bytes
        (subst (λ (e : Entry). entries_of.RecoversAmong log.journal.k from.number kept.entries doubt e
        bytes) draft_is is))) only
