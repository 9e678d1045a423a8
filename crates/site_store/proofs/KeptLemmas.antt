-- What a crash leaves of a journal that keeps a history.
use Rattle.std.proofs.Common.{◌≡◌, ◌+◌, inl, inr, ℕ, List, [], ◌∷◌, ◌++◌, length, Option, Some, None, Ok, IfSome, refl, sym, ap, subst, arith}
use Rattle.std.proofs.lemmas.List.{length-append}
use Rattle.site_types.specs.declared.entry.Entry.{Entry}
use Rattle.site_types.specs.declared.reply.Reply.{Reply}
use Rattle.site_model.specs.World.{World}
use Rattle.site_model.specs.Step.{step}
use Rattle.site_history.specs.History.{Tally}
use Rattle.entry_log.specs.Entries as entries_of
use Rattle.site_store.specs.History.{SiteHistory, tally_of, with_entry}
use Rattle.site_store.specs.Recovery.{Stage, end_of, Leads, Recovers, RecoversOneMore, RecoversWith, RecoversAmong, MayComeNext}
use Rattle.site_store.proofs.HistoryLemmas.{tally-with_entry, accepted_step}

-- one entry more leads on
pub Leads-push : (first mid last : World) (entries : List Entry) (entry : Entry) (reply : Reply)
    → Leads first entries mid → step mid entry ≡ Ok (last, reply)
    → Leads first (entries ++ entry ∷ []) last
Leads-push first mid last [] entry reply same is =
    (last, reply, subst (λ (w : World). step w entry ≡ Ok (last, reply)) same is, refl)
Leads-push first mid last (other ∷ entries) entry reply (next, told, made, more) is =
    (next, told, made, Leads-push next mid last entries entry reply more is)

-- where a history ends with one entry more
pub end-with_entry : (history : SiteHistory) (entry : Entry) (reply : Reply) (after : World)
    → step (tally_of history).world entry ≡ Ok (after, reply)
    → end_of (with_entry history entry reply)
    ≡ record { world = after; number = (tally_of history).number + 1 }
end-with_entry history entry reply after is =
    ap (λ (t : Tally World). let s : Stage = record { world = t.world; number = t.number } in s)
    (tally-with_entry history entry reply after is)

module _ (k : ℕ) (from : Stage) (history : SiteHistory) (entries : List Entry)
    (leads : Leads from.world entries (tally_of history).world)
    (number : (tally_of history).number ≡ from.number + length entries) where
  -- a file with these entries recovers to the end of the history
  pub recovers_end : (bytes : List ℕ) → entries_of.RecoversTo k from.number entries bytes
      → Recovers k from (end_of history) bytes
  recovers_end bytes are =
      record { entries = entries; are = are; leads = leads; number = number }

  -- a file with one more, which may come next, recovers to that with the entry
  pub recovers_more : (entry : Entry) → MayComeNext history entry → (bytes : List ℕ)
      → entries_of.RecoversTo k from.number (entries ++ entry ∷ []) bytes
      → RecoversOneMore k from history entry bytes
  recovers_more entry (reply, may) bytes are =
      let (after, made) = accepted_step history entry reply may.1 in (
        reply,
        may,
        subst (λ (s : Stage). Recovers k from s bytes)
            (sym (end-with_entry history entry reply after made)) (record {
              entries = entries ++ entry ∷ [];
              are = are;
              leads = Leads-push from.world (tally_of history).world after entries entry reply leads made;
              number = omega (arith, number, length-append entries (entry ∷ []));
            }),
      )

  -- the same with an entry in doubt or none
  pub recovers_with : (doubt : Option Entry) → IfSome doubt (MayComeNext history)
      → (bytes : List ℕ) → entries_of.RecoversWith k from.number entries doubt bytes
      → RecoversWith k from history doubt bytes
  recovers_with None may bytes are = recovers_end bytes are
  recovers_with (Some entry) may bytes (inl are) = inl (recovers_end bytes are)
  recovers_with (Some entry) may bytes (inr are) = inr (recovers_more entry may bytes are)

  -- and with another one
  pub recovers_among : (doubt : Option Entry) → IfSome doubt (MayComeNext history)
      → (entry : Entry) → MayComeNext history entry → (bytes : List ℕ)
      → entries_of.RecoversAmong k from.number entries doubt entry bytes
      → RecoversAmong k from history doubt entry bytes
  recovers_among doubt may entry next bytes (inl are) = inl (recovers_with doubt may bytes are)
  recovers_among doubt may entry next bytes (inr are) = inr (recovers_more entry next bytes are)
