use Rattle.std.proofs.Common.{refl, ap, ◌∙◌, length, arith}
use Rattle.disk_model.specs.Past.{seen}
use Rattle.disk_model.specs.Story.{past_of}
use Rattle.disk_model.proofs.PastLemmas.{seen-sync}
use Rattle.disk_model.proofs.MemoryLemmas.{turn_left, IsKept-sync}
use Rattle.disk_model.proofs.memory_disk.MemoryDiskDisk.sync.Goals as goal

pub invariant_of-self-2 : goal.invariant_of-self-2
invariant_of-self-2 c =
    let before = c.self.inside in
    IsKept-sync before.files _ before.story c.sync.new.self before.calls c.begin.new.self
    c.self.invariant (record {
      told = c.sync.ensures.told;
      written = omega (arith, ap length c.sync.ensures.written);
      same = c.sync.ensures.room_same;
      left = turn_left before.calls c.if-begin.ensures.listed;
      after_is = c.if-begin.ensures.after;
    }) c.args.file c.sync.ensures.past refl

pub returns-clause-sizes : goal.returns-clause-sizes
returns-clause-sizes c = λ f.
    ap length (seen-sync _ _ c.args.file c.sync.ensures.past f)
    ∙ ap (λ d. length (seen (past_of d.story) f)) c.self.view_is
