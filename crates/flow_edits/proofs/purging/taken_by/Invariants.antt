-- The count is that of the revisions so far.
use Rattle.std.proofs.Common.{◌≡◌, length, take}
use Rattle.flow_edits.specs.Plans.{taken}
use Rattle.flow_edits.proofs.purging.taken_by.Given as goal

abbrev pub invariant-loop-place : goal.invariant-loop-place
invariant-loop-place l = l.count ≡ length (taken l.purge (take l.place l.shelf.revisions))
