-- The journal is brought to the disk, and then read.
use Rattle.std.proofs.Common.{◌≡◌, Ok, Err, sym, ap, subst, ◌∙◌}
use Rattle.disk_model.specs.Past.{seen}
use Rattle.disk_model.proofs.ImageLemmas.{EachHolds-synced}
use Rattle.disk_model.proofs.PastLemmas.{seen-sync}
use Rattle.site_store.specs.declared.fault.OpenFault.TheVariants.{BadStore}
use Rattle.site_store.specs.Opening.{start, IsBadAt}
use Rattle.site_store.proofs.OpenLemmas.{IsOpened-under, KeepsFiles-sync, KeepsFiles-same, told_bad}
use Rattle.site_store.proofs.opening.recover_log.Goals as goal

pub returns-in-Err-read_log-clause-bad : goal.returns-in-Err-read_log-clause-bad
returns-in-Err-read_log-clause-bad g c = λ honest file offset is.
    let same : c.fault_told.result ≡ BadStore file offset = cc is in
    let told = told_bad c.in-Err-read_log.fault file offset (sym c.fault_told.ensures ∙ same) in
    let synced = seen-sync (g.D.Disk.past c.args.disk.now) (g.D.Disk.past c.sync.new.self) 3
    (c.in-Ok.ensures.synced honest) 3 in (
      told.0,
      subst (λ l. IsBadAt 1 start l offset) synced
          (c.in-Err-read_log.ensures.bad offset (ap Err told.1) (c.in-Ok.ensures.honest honest)),
    )

pub returns-in-Err-read_log-clause-files : goal.returns-in-Err-read_log-clause-files
returns-in-Err-read_log-clause-files g c = λ honest.
    KeepsFiles-same (g.D.Disk.past c.args.disk.now) (g.D.Disk.past c.sync.new.self)
    (g.D.Disk.past c.read_log.new.disk)
    (KeepsFiles-sync c.sync.result (g.D.Disk.past c.args.disk.now) (g.D.Disk.past c.sync.new.self) 3
    (c.sync.ensures.synced honest) (c.sync.ensures.kept honest))
    (c.in-Err-read_log.ensures.same (c.in-Ok.ensures.honest honest))

pub returns-in-Ok-read_log-clause-ok : goal.returns-in-Ok-read_log-clause-ok
returns-in-Ok-read_log-clause-ok g c =
    IsOpened-under _ (g.D.Disk.is_honest c.args.disk.now) (seen (g.D.Disk.past c.sync.new.self) 3)
    (seen (g.D.Disk.past c.args.disk.now) 3) c.read_log.new.core c.in-Ok-read_log.log
    (g.D.Disk.size c.read_log.new.disk) (g.D.Disk.past c.read_log.new.disk)
    (λ honest. (
      c.in-Ok.ensures.honest honest,
      EachHolds-synced {T = Unit {0}} (Ok (tt {0})) (g.D.Disk.past c.args.disk.now)
          (g.D.Disk.past c.sync.new.self) 3 (seen (g.D.Disk.past c.sync.new.self) 3)
          (sym (seen-sync (g.D.Disk.past c.args.disk.now) (g.D.Disk.past c.sync.new.self) 3
          (c.in-Ok.ensures.synced honest) 3)) (c.in-Ok.ensures.synced honest),
    ))
    (λ honest. seen-sync (g.D.Disk.past c.args.disk.now) (g.D.Disk.past c.sync.new.self) 3
    (c.in-Ok.ensures.synced honest) 3) c.in-Ok-read_log.ensures.ok

pub returns-in-Ok-read_log-clause-files : goal.returns-in-Ok-read_log-clause-files
returns-in-Ok-read_log-clause-files g c = λ honest.
    KeepsFiles-same (g.D.Disk.past c.args.disk.now) (g.D.Disk.past c.sync.new.self)
    (g.D.Disk.past c.read_log.new.disk)
    (KeepsFiles-sync c.sync.result (g.D.Disk.past c.args.disk.now) (g.D.Disk.past c.sync.new.self) 3
    (c.sync.ensures.synced honest) (c.sync.ensures.kept honest))
    (c.in-Ok-read_log.ensures.same (c.in-Ok.ensures.honest honest))
