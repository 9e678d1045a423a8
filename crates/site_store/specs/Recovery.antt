-- What the bytes of a journal stand for: its entries, one after the other, lead from one world to
-- another.
use Rattle.std.specs.Prelude.{ℕ, ◌≡◌, ◌+◌, ◌⊎◌, List, [], ◌∷◌, length, Option, Some, None, Ok, IfSome}
use Rattle.disk_model.specs.Past.{Past}
use Rattle.site_types.specs.declared.entry.Entry.{Entry}
use Rattle.site_types.specs.declared.reply.Reply.{Reply}
use Rattle.site_model.specs.World.{World}
use Rattle.site_model.specs.Step.{step}
use Rattle.entry_log.specs.declared.log.EntryLog.{EntryLog}
use Rattle.entry_log.specs.Entries.{RecoversTo}
use Rattle.entry_log.specs.Log.{Keeps}
use Rattle.site_store.specs.History.{SiteHistory, tally_of, MayCome, with_entry}

-- A world, and the number of the last entry that it has.
pub record Stage : Type 0 where
  pub world : World
  pub number : ℕ

-- where a history ends
abbrev pub end_of : SiteHistory → Stage
end_of history =
    record { world = (tally_of history).world; number = (tally_of history).number }

-- Entries lead from one world to another: each is accepted by the step of the world that those
-- before it leave.
abbrev pub Leads : World → List Entry → World → Type 0
Leads world [] last = last ≡ world
Leads world (entry ∷ entries) last =
    (next : World) × (reply : Reply) × (step world entry ≡ Ok (next, reply))
    × Leads next entries last

-- Journal k, whose file has these bytes, recovers from one stage to another.
pub record Recovers (k : ℕ) (from to : Stage) (bytes : List ℕ) : Type 0 where
  pub entries : List Entry
  pub are : RecoversTo k from.number entries bytes
  pub leads : Leads from.world entries to.world
  pub number : to.number ≡ from.number + length entries

-- it recovers to the end of a history with this entry after it, which may come next
abbrev pub RecoversOneMore : ℕ → Stage → SiteHistory → Entry → List ℕ → Type 0
RecoversOneMore k from history entry bytes =
    (reply : Reply) × MayCome history entry reply
    × Recovers k from (end_of (with_entry history entry reply)) bytes

-- it recovers to the end of a history, or, if an entry is in doubt, to that with the entry
abbrev pub RecoversWith : ℕ → Stage → SiteHistory → Option Entry → List ℕ → Type 0
RecoversWith k from history None bytes = Recovers k from (end_of history) bytes
RecoversWith k from history (Some entry) bytes =
    Recovers k from (end_of history) bytes ⊎ RecoversOneMore k from history entry bytes

-- the same, or to that with another entry
abbrev pub RecoversAmong : ℕ → Stage → SiteHistory → Option Entry → Entry → List ℕ → Type 0
RecoversAmong k from history doubt entry bytes =
    RecoversWith k from history doubt bytes ⊎ RecoversOneMore k from history entry bytes

-- some reply stands for an entry that may come next
abbrev pub MayComeNext : SiteHistory → Entry → Type 0
MayComeNext history entry = (reply : Reply) × MayCome history entry reply

-- A history is on the disk: the journal keeps entries that lead from a stage to its end, and one
-- more, which may come next, is in doubt or none.
pub record IsKept (log : EntryLog) (past : Past) (from : Stage) (history : SiteHistory)
    (doubt : Option Entry) : Type 0 where
  pub entries : List Entry
  pub keeps : Keeps log past from.number entries doubt
  pub leads : Leads from.world entries (tally_of history).world
  pub next : IfSome doubt (MayComeNext history)
