-- The entries that were read from the first one on are those of the file.
use Rattle.std.proofs.Common.{◌≡◌, ◌+◌, ◌≤◌, [], sym, ap, subst, ◌∙◌, refl, arith}
use Rattle.disk_model.specs.Past.{seen}
use Rattle.disk_model.specs.Images.{EachHolds}
use Rattle.journal.specs.Form.{journal_file}
use Rattle.site_store.specs.Opening.{start, IsOpened}
use Rattle.site_store.proofs.OpenLemmas.{start_ready, read_bad, read_opened}
use Rattle.site_store.proofs.opening.read_log.Goals as goal

pub replay-requires-clause-ready : goal.replay-requires-clause-ready
replay-requires-clause-ready g c =
    (start.world, [], start_ready c.args.core.now c.requires, refl)

pub returns-in-Err-replay-clause-bad : goal.returns-in-Err-replay-clause-bad
returns-in-Err-replay-clause-bad g c = λ offset is honest.
    let scan = c.in-Ok.ensures.scan in
    read_bad (g.D.Disk.is_honest c.args.disk.now) (g.D.Disk.is_honest c.recover.new.disk)
    (g.D.Disk.past c.args.disk.now) (g.D.Disk.past c.recover.new.disk) c.in-Ok.scan c.args.core.now
    c.in-Err-replay.fault offset scan.0 c.in-Ok.ensures.ok c.in-Ok.ensures.honest
    c.in-Ok.ensures.same (cc is) honest
    (c.in-Err-replay.ensures.replays start.world [] (start_ready c.args.core.now c.requires) refl)

pub finish-requires : goal.finish-requires
finish-requires g c =
    (c.in-Ok-replay.ensures.replays start.world [] (start_ready c.args.core.now c.requires) refl).ended

pub returns-in-Ok-replay-clause-ok : goal.returns-in-Ok-replay-clause-ok
returns-in-Ok-replay-clause-ok g c =
    let scan = c.in-Ok.ensures.scan in
    let same = c.in-Ok-replay.ensures.same_file in
    let first : c.replay.new.scan.scan.k ≡ 1 = same.0 ∙ scan.0 in
    let size : g.D.Disk.size c.recover.new.disk (journal_file c.replay.new.scan.scan.k)
    ≡ g.D.Disk.size c.recover.new.disk (journal_file 1) =
    ap (λ k. g.D.Disk.size c.recover.new.disk (journal_file k)) first in
    let sizes = c.in-Ok-replay.ensures.sizes (journal_file c.replay.new.scan.scan.k) in
    let reaches : c.replay.new.scan.scan.gate + 1
    ≤ g.D.Disk.size c.replay.new.disk (journal_file c.replay.new.scan.scan.k) =
    omega (arith, c.gate-gate.ensures.gate, c.gate-gate.ensures.within, same.1, scan.1, size, sizes)
    in
    subst (λ log. IsOpened (g.D.Disk.is_honest c.args.disk.now
    × EachHolds (g.D.Disk.past c.args.disk.now) 3
    (λ held. held ≡ seen (g.D.Disk.past c.args.disk.now) 3))
    (seen (g.D.Disk.past c.args.disk.now) 3) c.replay.new.core log
    (g.D.Disk.size c.replay.new.disk) (g.D.Disk.past c.replay.new.disk)) (sym c.finish.ensures)
    (read_opened (g.D.Disk.is_honest c.args.disk.now) (g.D.Disk.is_honest c.recover.new.disk)
    (g.D.Disk.past c.args.disk.now) (g.D.Disk.past c.recover.new.disk)
    (g.D.Disk.past c.replay.new.disk) c.in-Ok.scan c.replay.new.scan c.replay.new.core
    (g.D.Disk.size c.replay.new.disk) scan.0 same.0 c.in-Ok.ensures.ok c.in-Ok.ensures.honest
    c.in-Ok.ensures.same c.in-Ok-replay.ensures.same reaches
    (c.in-Ok-replay.ensures.replays start.world [] (start_ready c.args.core.now c.requires) refl))
