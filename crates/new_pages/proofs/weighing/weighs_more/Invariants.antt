-- What is left with the contents so far is the room.
use Rattle.std.proofs.Common.{◌≡◌, ◌+◌, take}
use Rattle.site_model.specs.Limits.{contents_length}
use Rattle.new_pages.proofs.weighing.weighs_more.Given as goal

abbrev pub invariant-loop-revision : goal.invariant-loop-revision
invariant-loop-revision l = l.left + contents_length (take l.revision-index l.revisions) ≡ l.room
