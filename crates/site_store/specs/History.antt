-- The history of a store: its entries are decided by the step of the world, and each one that is
-- accepted is written to the journal.
use Rattle.std.specs.Prelude.{ℕ, ◌+◌, Result}
use Rattle.site_types.specs.declared.command.Command.{Command}
use Rattle.site_types.specs.declared.entry.Entry.{Entry}
use Rattle.site_types.specs.declared.refusal.Refusal.{Refusal}
use Rattle.site_types.specs.declared.refusal.Refusal.TheVariants.{LogFull}
use Rattle.site_types.specs.declared.reply.Reply.{Reply}
use Rattle.site_history.specs.History.{Tally, History, Decider, accepted, longer}
use Rattle.site_history.specs.History as histories
use Rattle.site_model.specs.World.{World}
use Rattle.site_model.specs.Sound.{IsSound}
use Rattle.site_model.specs.Step.{step}
use Rattle.entry_log.specs.Log.{entry_logging}

-- a history of the site
abbrev pub SiteHistory : Type 0
SiteHistory = History World Entry Reply

-- how entries are decided: by the step of the world, and then by the room in the journal
abbrev pub deciding : Decider World Entry Reply Refusal
deciding =
    record {
      step = step;
      number_of = λ entry. entry.number;
      logging = entry_logging;
      log_full = LogFull;
    }

-- what a history comes to: the world after it, the number of its last entry, and what was written
abbrev pub tally_of : SiteHistory → Tally World
tally_of history = histories.tally_of deciding history

-- what an entry gets after a history: the step's refusal; else that the log is full, if it has no
-- room; else the step's reply
abbrev pub decide : SiteHistory → Entry → Result Reply Refusal
decide history entry = histories.decide deciding (tally_of history) entry

-- it starts with a sound world, and each of its entries was accepted as it stands
abbrev pub IsLegal : SiteHistory → Type 0
IsLegal history = histories.IsLegal deciding IsSound history

-- an entry may come next with this reply
abbrev pub MayCome : SiteHistory → Entry → Reply → Type 0
MayCome history entry reply =
    histories.MayStand deciding (tally_of history) (accepted entry reply)

-- the history with one entry more at its end
abbrev pub with_entry : SiteHistory → Entry → Reply → SiteHistory
with_entry history entry reply = longer history (accepted entry reply)

-- the entry of a command by a user at a moment that comes next
abbrev pub next_entry : ℕ → ℕ → ℕ → Command → Entry
next_entry last caller moment command =
    record { number = last + 1; moment = moment; caller = caller; command = command }
