-- The entries so far were read and done, and the disk was only read.
use Rattle.std.proofs.Common.{◌≡◌, ℕ, ◌-◌, List}
use Rattle.disk_model.specs.Past.{seen}
use Rattle.site_types.specs.declared.entry.Entry.{Entry}
use Rattle.site_model.specs.World.{World}
use Rattle.site_core.specs.Standing.{IsReady}
use Rattle.journal.specs.Form.{journal_file}
use Rattle.entry_log.specs.Scan.{HasReadEntries}
use Rattle.site_store.specs.Recovery.{Leads}
use Rattle.site_store.specs.Opening.{start, HasReplayed}
use Rattle.site_store.proofs.replay.replay.Given as goal

abbrev pub invariant-entries : goal.invariant-entries
invariant-entries g l =
    ((world : World) (entries : List Entry) → IsReady l.initial.core world
    → Leads start.world entries world
    → HasReplayed (g.D.Disk.is_honest l.initial.disk × HasReadEntries l.initial.scan
    (seen (g.D.Disk.past l.initial.disk) (journal_file l.initial.scan.scan.k)) start.number entries)
    (seen (g.D.Disk.past l.initial.disk) (journal_file l.initial.scan.scan.k)) start l.scan l.core)
    × (g.D.Disk.is_honest l.initial.disk → g.D.Disk.is_honest l.disk)
    × (g.D.Disk.is_honest l.initial.disk → g.D.Disk.past l.disk ≡ g.D.Disk.past l.initial.disk)
    × ((f : ℕ) → g.D.Disk.size l.disk f ≡ g.D.Disk.size l.initial.disk f)
    × (g.D.Disk.fault_count l.disk ≡ g.D.Disk.fault_count l.initial.disk)
    × (l.scan.scan.k ≡ l.initial.scan.scan.k)
    × (l.scan.scan.size ≡ l.initial.scan.scan.size)

abbrev pub decreases-entries : goal.decreases-entries
decreases-entries g l = l.scan.scan.size - l.scan.scan.gate
