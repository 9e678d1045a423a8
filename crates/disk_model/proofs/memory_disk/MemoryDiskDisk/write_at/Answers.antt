use Rattle.std.proofs.Common.{◌∙◌, ap, length, arith, length-append}
use Rattle.disk_model.specs.Memory.{memory_size}
use Rattle.disk_model.proofs.PastLemmas.{seen-write_other}
use Rattle.disk_model.proofs.MemoryLemmas.{turn_left, IsKept-write, size-write, within_file}
use Rattle.disk_model.proofs.memory_disk.MemoryDiskDisk.write_at.Goals as goal

pub invariant_of-self-2 : goal.invariant_of-self-2
invariant_of-self-2 c =
    let before = c.self.inside in
    let more = ap length c.write-2.ensures.written
    ∙ length-append before.story.written c.args.bytes.now in
    IsKept-write before.files c.write.new.self before.story c.write-2.new.self before.calls
    c.begin.new.self c.self.invariant (record {
      told = c.write-2.ensures.told;
      written = omega arith;
      same = c.write-2.ensures.room_same;
      left = turn_left before.calls c.if-begin.ensures.listed;
      after_is = c.if-begin.ensures.after;
    }) c.args.file c.args.at c.args.bytes.now c.requires.file
    (within_file before.files before.story before.calls c.args.self.now c.args.file c.args.at
    c.self.view_is c.self.invariant c.requires.within)
    c.write.ensures c.write-2.ensures.past more

pub returns-clause-reaches : goal.returns-clause-reaches
returns-clause-reaches c =
    let size = size-write c.self.inside.story c.write-2.new.self c.self.inside.calls c.args.self.now
    c.args.file c.args.at c.args.bytes.now c.self.view_is c.requires.within c.write-2.ensures.past
    in
    omega arith

pub returns-clause-no_less : goal.returns-clause-no_less
returns-clause-no_less c =
    let size = size-write c.self.inside.story c.write-2.new.self c.self.inside.calls c.args.self.now
    c.args.file c.args.at c.args.bytes.now c.self.view_is c.requires.within c.write-2.ensures.past
    in
    omega arith

pub returns-clause-others : goal.returns-clause-others
returns-clause-others c = λ f differs.
    ap length (seen-write_other _ _ _ _ _ f c.write-2.ensures.past differs)
    ∙ ap (λ d. memory_size d f) c.self.view_is
