use Rattle.std.proofs.Common.{◌∙◌, ap, length, arith}
use Rattle.disk_model.specs.Memory.{memory_size}
use Rattle.disk_model.proofs.PastLemmas.{seen-cut_other}
use Rattle.disk_model.proofs.MemoryLemmas.{turn_left, IsKept-cut, size-cut}
use Rattle.disk_model.proofs.memory_disk.MemoryDiskDisk.cut.Goals as goal

pub invariant_of-self-2 : goal.invariant_of-self-2
invariant_of-self-2 c =
    let before = c.self.inside in
    IsKept-cut before.files c.cut.new.self before.story c.cut-2.new.self before.calls
    c.begin.new.self c.self.invariant (record {
      told = c.cut-2.ensures.told;
      written = omega (arith, ap length c.cut-2.ensures.written);
      same = c.cut-2.ensures.room_same;
      left = turn_left before.calls c.if-begin.ensures.listed;
      after_is = c.if-begin.ensures.after;
    }) c.args.file c.args.length c.requires.file c.cut.ensures c.cut-2.ensures.past

pub returns-clause-exact : goal.returns-clause-exact
returns-clause-exact c =
    size-cut c.self.inside.story c.cut-2.new.self c.self.inside.calls c.args.self.now c.args.file
    c.args.length c.self.view_is c.requires.within c.cut-2.ensures.past

pub returns-clause-no_less : goal.returns-clause-no_less
returns-clause-no_less c =
    let size = size-cut c.self.inside.story c.cut-2.new.self c.self.inside.calls c.args.self.now
    c.args.file
    c.args.length c.self.view_is c.requires.within c.cut-2.ensures.past in
    omega arith

pub returns-clause-no_more : goal.returns-clause-no_more
returns-clause-no_more c =
    let size = size-cut c.self.inside.story c.cut-2.new.self c.self.inside.calls c.args.self.now
    c.args.file
    c.args.length c.self.view_is c.requires.within c.cut-2.ensures.past in
    omega (arith, c.requires.within)

pub returns-clause-others : goal.returns-clause-others
returns-clause-others c = λ f differs.
    ap length (seen-cut_other _ _ _ _ f c.cut-2.ensures.past differs)
    ∙ ap (λ d. memory_size d f) c.self.view_is
