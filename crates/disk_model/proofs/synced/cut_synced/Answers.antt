use Rattle.std.proofs.Common.{arith}
use Rattle.disk_model.proofs.PastLemmas.{seen-cut}
use Rattle.disk_model.proofs.ImageLemmas.{EachHolds-synced}
use Rattle.disk_model.proofs.RunLemmas.{IsRun-cut, IsRun-sync}
use Rattle.disk_model.proofs.synced.cut_synced.Goals as goal

pub returns-in_err-cut-clause-shortened : goal.returns-in_err-cut-clause-shortened
returns-in_err-cut-clause-shortened g c = λ honest.
    let size = g.met.D.Disk.sizes_are c.args.disk.now honest c.args.file in
    let run = IsRun-cut c.cut.result (g.D.Disk.past c.args.disk.now)
    (g.D.Disk.past c.cut.new.self) c.args.file c.args.length
    (omega (arith, size, c.requires.within)) (c.cut.ensures.cut honest)
    (c.cut.ensures.torn honest) in
    run.each

pub returns-in_err-cut-clause-any_moment : goal.returns-in_err-cut-clause-any_moment
returns-in_err-cut-clause-any_moment g c = λ honest.
    let size = g.met.D.Disk.sizes_are c.args.disk.now honest c.args.file in
    let run = IsRun-cut c.cut.result (g.D.Disk.past c.args.disk.now)
    (g.D.Disk.past c.cut.new.self) c.args.file c.args.length
    (omega (arith, size, c.requires.within)) (c.cut.ensures.cut honest)
    (c.cut.ensures.torn honest) in
    run.any_moment

pub returns-in_err-cut-clause-others : goal.returns-in_err-cut-clause-others
returns-in_err-cut-clause-others g c = λ honest.
    let size = g.met.D.Disk.sizes_are c.args.disk.now honest c.args.file in
    let run = IsRun-cut c.cut.result (g.D.Disk.past c.args.disk.now)
    (g.D.Disk.past c.cut.new.self) c.args.file c.args.length
    (omega (arith, size, c.requires.within)) (c.cut.ensures.cut honest)
    (c.cut.ensures.torn honest) in
    run.others

pub returns-clause-shortened : goal.returns-clause-shortened
returns-clause-shortened g c = λ honest.
    let size = g.met.D.Disk.sizes_are c.args.disk.now honest c.args.file in
    let run = IsRun-cut c.cut.result (g.D.Disk.past c.args.disk.now)
    (g.D.Disk.past c.cut.new.self) c.args.file c.args.length
    (omega (arith, size, c.requires.within)) (c.cut.ensures.cut honest)
    (c.cut.ensures.torn honest) in
    let synced = IsRun-sync c.sync.result _ (g.D.Disk.past c.cut.new.self)
    (g.D.Disk.past c.sync.new.self) c.args.file _ run
    (c.sync.ensures.synced (c.cut.ensures.honest honest))
    (c.sync.ensures.kept (c.cut.ensures.honest honest)) in
    synced.each

pub returns-clause-any_moment : goal.returns-clause-any_moment
returns-clause-any_moment g c = λ honest.
    let size = g.met.D.Disk.sizes_are c.args.disk.now honest c.args.file in
    let run = IsRun-cut c.cut.result (g.D.Disk.past c.args.disk.now)
    (g.D.Disk.past c.cut.new.self) c.args.file c.args.length
    (omega (arith, size, c.requires.within)) (c.cut.ensures.cut honest)
    (c.cut.ensures.torn honest) in
    let synced = IsRun-sync c.sync.result _ (g.D.Disk.past c.cut.new.self)
    (g.D.Disk.past c.sync.new.self) c.args.file _ run
    (c.sync.ensures.synced (c.cut.ensures.honest honest))
    (c.sync.ensures.kept (c.cut.ensures.honest honest)) in
    synced.any_moment

pub returns-clause-others : goal.returns-clause-others
returns-clause-others g c = λ honest.
    let size = g.met.D.Disk.sizes_are c.args.disk.now honest c.args.file in
    let run = IsRun-cut c.cut.result (g.D.Disk.past c.args.disk.now)
    (g.D.Disk.past c.cut.new.self) c.args.file c.args.length
    (omega (arith, size, c.requires.within)) (c.cut.ensures.cut honest)
    (c.cut.ensures.torn honest) in
    let synced = IsRun-sync c.sync.result _ (g.D.Disk.past c.cut.new.self)
    (g.D.Disk.past c.sync.new.self) c.args.file _ run
    (c.sync.ensures.synced (c.cut.ensures.honest honest))
    (c.sync.ensures.kept (c.cut.ensures.honest honest)) in
    synced.others

pub returns-clause-durable : goal.returns-clause-durable
returns-clause-durable g c = λ honest.
    EachHolds-synced c.sync.result _ _ c.args.file _
    (seen-cut _ _ c.args.file c.args.length
    (c.in_ok-cut.ensures.cut honest))
    (c.sync.ensures.synced (c.cut.ensures.honest honest))
