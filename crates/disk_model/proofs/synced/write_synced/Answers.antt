use Rattle.std.proofs.Common.{arith}
use Rattle.disk_model.proofs.PastLemmas.{seen-write}
use Rattle.disk_model.proofs.ImageLemmas.{EachHolds-synced}
use Rattle.disk_model.proofs.RunLemmas.{IsRun-write, IsRun-sync}
use Rattle.disk_model.proofs.synced.write_synced.Goals as goal

pub returns-in_err-write_at-clause-torn : goal.returns-in_err-write_at-clause-torn
returns-in_err-write_at-clause-torn g c = λ honest.
    let size = g.met.D.Disk.sizes_are c.args.disk.now honest c.args.file in
    let run = IsRun-write c.write_at.result (g.D.Disk.past c.args.disk.now)
    (g.D.Disk.past c.write_at.new.self) c.args.file c.args.at c.args.bytes.now
    (omega (arith, size, c.requires.within)) (c.write_at.ensures.written honest)
    (c.write_at.ensures.torn honest) in
    run.each

pub returns-in_err-write_at-clause-any_moment : goal.returns-in_err-write_at-clause-any_moment
returns-in_err-write_at-clause-any_moment g c = λ honest.
    let size = g.met.D.Disk.sizes_are c.args.disk.now honest c.args.file in
    let run = IsRun-write c.write_at.result (g.D.Disk.past c.args.disk.now)
    (g.D.Disk.past c.write_at.new.self) c.args.file c.args.at c.args.bytes.now
    (omega (arith, size, c.requires.within)) (c.write_at.ensures.written honest)
    (c.write_at.ensures.torn honest) in
    run.any_moment

pub returns-in_err-write_at-clause-others : goal.returns-in_err-write_at-clause-others
returns-in_err-write_at-clause-others g c = λ honest.
    let size = g.met.D.Disk.sizes_are c.args.disk.now honest c.args.file in
    let run = IsRun-write c.write_at.result (g.D.Disk.past c.args.disk.now)
    (g.D.Disk.past c.write_at.new.self) c.args.file c.args.at c.args.bytes.now
    (omega (arith, size, c.requires.within)) (c.write_at.ensures.written honest)
    (c.write_at.ensures.torn honest) in
    run.others

pub returns-clause-torn : goal.returns-clause-torn
returns-clause-torn g c = λ honest.
    let size = g.met.D.Disk.sizes_are c.args.disk.now honest c.args.file in
    let run = IsRun-write c.write_at.result (g.D.Disk.past c.args.disk.now)
    (g.D.Disk.past c.write_at.new.self) c.args.file c.args.at c.args.bytes.now
    (omega (arith, size, c.requires.within)) (c.write_at.ensures.written honest)
    (c.write_at.ensures.torn honest) in
    let synced = IsRun-sync c.sync.result _ (g.D.Disk.past c.write_at.new.self)
    (g.D.Disk.past c.sync.new.self) c.args.file _ run
    (c.sync.ensures.synced (c.write_at.ensures.honest honest))
    (c.sync.ensures.kept (c.write_at.ensures.honest honest)) in
    synced.each

pub returns-clause-any_moment : goal.returns-clause-any_moment
returns-clause-any_moment g c = λ honest.
    let size = g.met.D.Disk.sizes_are c.args.disk.now honest c.args.file in
    let run = IsRun-write c.write_at.result (g.D.Disk.past c.args.disk.now)
    (g.D.Disk.past c.write_at.new.self) c.args.file c.args.at c.args.bytes.now
    (omega (arith, size, c.requires.within)) (c.write_at.ensures.written honest)
    (c.write_at.ensures.torn honest) in
    let synced = IsRun-sync c.sync.result _ (g.D.Disk.past c.write_at.new.self)
    (g.D.Disk.past c.sync.new.self) c.args.file _ run
    (c.sync.ensures.synced (c.write_at.ensures.honest honest))
    (c.sync.ensures.kept (c.write_at.ensures.honest honest)) in
    synced.any_moment

pub returns-clause-others : goal.returns-clause-others
returns-clause-others g c = λ honest.
    let size = g.met.D.Disk.sizes_are c.args.disk.now honest c.args.file in
    let run = IsRun-write c.write_at.result (g.D.Disk.past c.args.disk.now)
    (g.D.Disk.past c.write_at.new.self) c.args.file c.args.at c.args.bytes.now
    (omega (arith, size, c.requires.within)) (c.write_at.ensures.written honest)
    (c.write_at.ensures.torn honest) in
    let synced = IsRun-sync c.sync.result _ (g.D.Disk.past c.write_at.new.self)
    (g.D.Disk.past c.sync.new.self) c.args.file _ run
    (c.sync.ensures.synced (c.write_at.ensures.honest honest))
    (c.sync.ensures.kept (c.write_at.ensures.honest honest)) in
    synced.others

pub returns-clause-durable : goal.returns-clause-durable
returns-clause-durable g c = λ honest.
    EachHolds-synced c.sync.result _ _ c.args.file _
    (seen-write _ _ c.args.file c.args.at c.args.bytes.now
    (c.in_ok-write_at.ensures.written honest))
    (c.sync.ensures.synced (c.write_at.ensures.honest honest))
