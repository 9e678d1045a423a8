use Rattle.std.proofs.Common.{arith}
use Rattle.disk_model.proofs.MemoryLemmas.{IsKept-fresh}
use Rattle.disk_model.proofs.memory_disk.MemoryDisk.new.Goals as goal

pub invariant_of-result : goal.invariant_of-result
invariant_of-result c =
    IsKept-fresh _ _ _ _ _ _ c.in_ok-new.ensures c.in_ok-new-2.ensures c.new-3.ensures
    (omega (arith, c.ranges.calls.fits))
