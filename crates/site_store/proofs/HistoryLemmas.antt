-- What one entry more makes of a history, and when it is accepted.
use Rattle.std.proofs.Common.{◌≡◌, ◌+◌, Bool, true, false, [], ◌∷◌, Result, Ok, Err, refl, ◌∙◌, ap}
use Rattle.site_types.specs.declared.entry.Entry.{Entry}
use Rattle.site_types.specs.declared.refusal.Refusal.{Refusal}
use Rattle.site_types.specs.declared.refusal.Refusal.TheVariants.{LogFull}
use Rattle.site_types.specs.declared.reply.Reply.{Reply}
use Rattle.site_history.specs.History.{Tally, accepted}
use Rattle.site_history.specs.History as histories
use Rattle.site_history.proofs.HistoryLemmas.{tick_all-append, AllMayStand-push}
use Rattle.site_model.specs.World.{World}
use Rattle.site_model.specs.Step.{step}
use Rattle.entry_log.specs.Log.{entry_logging}
use Rattle.site_store.specs.History.{SiteHistory, deciding, tally_of, decide, IsLegal, MayCome, with_entry}

-- what a history comes to with one entry more, which the step accepts
pub tally-with_entry : (history : SiteHistory) (entry : Entry) (reply : Reply) (after : World)
    → step (tally_of history).world entry ≡ Ok (after, reply)
    → tally_of (with_entry history entry reply) ≡ record {
      world = after;
      number = (tally_of history).number + 1;
      log = entry_logging.logged (tally_of history).log entry;
    }
tally-with_entry history entry reply after is =
    tick_all-append deciding history.start history.items (accepted entry reply ∷ []) ∙ rw is refl

-- an entry that the step refuses is refused
pub decide-refused : (history : SiteHistory) (entry : Entry) (refusal : Refusal)
    → step (tally_of history).world entry ≡ Err refusal → decide history entry ≡ Err refusal
decide-refused history entry refusal is = rw is refl

-- an entry that the step accepts is refused if the log has no room for it
pub decide-full : (history : SiteHistory) (entry : Entry) (after : World) (reply : Reply)
    → step (tally_of history).world entry ≡ Ok (after, reply)
    → entry_logging.has_room (tally_of history).number (tally_of history).log entry ≡ false
    → decide history entry ≡ Err LogFull
decide-full history entry after reply is full = rw (is, full) refl

-- and else it is accepted
pub decide-ok : (history : SiteHistory) (entry : Entry) (after : World) (reply : Reply)
    → step (tally_of history).world entry ≡ Ok (after, reply)
    → entry_logging.has_room (tally_of history).number (tally_of history).log entry ≡ true
    → decide history entry ≡ Ok reply
decide-ok history entry after reply is room = rw (is, room) refl

-- what is accepted is accepted by the step
pub accepted_step : (history : SiteHistory) (entry : Entry) (reply : Reply)
    → decide history entry ≡ Ok reply
    → (after : World) × (step (tally_of history).world entry ≡ Ok (after, reply))
accepted_step history entry reply is =
    by (step (tally_of history).world entry) refl
    (entry_logging.has_room (tally_of history).number (tally_of history).log entry) is
  where
    by : (made : Result (World × Reply) Refusal) → step (tally_of history).world entry ≡ made
        → (room : Bool) → histories.decided deciding room made ≡ Ok reply
        → (after : World) × (step (tally_of history).world entry ≡ Ok (after, reply))
    by (Err refusal) made room told = absurd (cc)
    by (Ok (after, answer)) made true told =
        let same : answer ≡ reply = cc in (after, made ∙ ap (λ r. Ok (after, r)) same)
    by (Ok (after, answer)) made false told = absurd (cc)

-- with one entry more, which may come next, a legal history is legal
pub IsLegal-with_entry : (history : SiteHistory) (entry : Entry) (reply : Reply) → IsLegal history
    → MayCome history entry reply → IsLegal (with_entry history entry reply)
IsLegal-with_entry history entry reply legal may = record {
  start = legal.start;
  items = AllMayStand-push deciding history.start history.items (accepted entry reply) legal.items
      may;
}
