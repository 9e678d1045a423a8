-- How a store in memory stands for a history.
use Rattle.std.specs.Prelude.{ℕ, ◌≡◌, ◌+◌, ◌≤◌}
use Rattle.journal.specs.Form.{journal_file}
use Rattle.site_core.specs.Standing as cores
use Rattle.site_core.specs.declared.state.Core.{Core}
use Rattle.entry_log.specs.declared.log.EntryLog.{EntryLog}
use Rattle.entry_log.specs.Log.{log_in}
use Rattle.site_store.specs.History.{SiteHistory, tally_of, IsLegal}

-- A store is at a history: the history is legal, what is in memory stands for the world after it,
-- and the log has the number of its last entry and what was written since it was opened. The file
-- of the journal, of the files with these lengths, reaches behind its last gate.
pub record IsAt (core : Core) (log : EntryLog) (sizes : ℕ → ℕ) (history : SiteHistory) : Type 0
  where
    pub legal : IsLegal history
    pub ready : cores.IsReady core (tally_of history).world
    pub number : log.number ≡ (tally_of history).number
    pub written : log_in log ≡ (tally_of history).log
    pub reaches : log.journal.gate + 1 ≤ sizes (journal_file log.journal.k)
