-- What a command of a store gets, and what it leaves.
use Rattle.std.specs.Prelude.{ℕ, ◌≡◌, Option, None, Result, Ok, Err}
use Rattle.disk_model.specs.Past.{Past}
use Rattle.disk_model.specs.Faults.{Rose}
use Rattle.site_types.specs.declared.entry.Entry.{Entry}
use Rattle.site_types.specs.declared.reply.Reply.{Reply}
use Rattle.entry_log.specs.declared.log.EntryLog.{EntryLog}
use Rattle.entry_log.specs.Log.{MayBeLeft}
use Rattle.site_store.specs.History.{SiteHistory, decide, with_entry}
use Rattle.site_store.specs.Recovery.{Stage, IsKept}
use Rattle.site_store.specs.declared.fault.CallFault.{CallFault}
use Rattle.site_store.specs.declared.fault.CallFault.TheVariants.{Refused, Memory, Disk}
use Rattle.site_store.specs.declared.store.Accepted.{Accepted}

-- What an entry gets: its number and its reply if it is accepted, or its refusal. A disk fails only
-- if the entry would be accepted, and its count of faults rises from the one to the other. Out of
-- memory tells nothing.
abbrev pub Answers : SiteHistory → Entry → ℕ → ℕ → Result Accepted CallFault → Type 0
Answers history entry before after (Ok accepted) =
    (accepted.number ≡ entry.number) × (decide history entry ≡ Ok accepted.reply)
Answers history entry before after (Err (Refused refusal)) = decide history entry ≡ Err refusal
Answers history entry before after (Err Memory) = Unit {0}
Answers history entry before after (Err (Disk first last)) =
    ((reply : Reply) × (decide history entry ≡ Ok reply)) × (first ≡ before) × (last ≡ after)
    × Rose before after

-- the history after it: with the entry if it was accepted, else as it was
abbrev pub history_after : SiteHistory → Entry → Result Accepted CallFault → SiteHistory
history_after history entry (Ok accepted) = with_entry history entry accepted.reply
history_after history entry (Err fault) = history

-- What is on the disk after it. An entry that was accepted is there, and nothing is in doubt. If the
-- disk failed, at most one entry is in doubt: this one, or the one from before. Else all is as it was.
abbrev pub IsKeptAfter : EntryLog → Past → Stage → SiteHistory → Option Entry → Entry →
    Result Accepted CallFault → Type 0
IsKeptAfter log past from history doubt entry (Ok accepted) =
    IsKept log past from (with_entry history entry accepted.reply) None
IsKeptAfter log past from history doubt entry (Err (Disk first last)) =
    (left : Option Entry) × IsKept log past from history left × MayBeLeft doubt entry left
IsKeptAfter log past from history doubt entry (Err fault) = IsKept log past from history doubt
