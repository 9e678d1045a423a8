-- The body names the revision.
use Rattle.std.proofs.Common.{refl}
use Rattle.moderating.proofs.telling.latest_of.Goals as goal

pub returns-in-Some : goal.returns-in-Some
returns-in-Some c = λ world stands.
    rw (← c.in-Some.ensures world.tree stands.pages, ← stands.revisions) c.revision_of.ensures

pub returns-in-None : goal.returns-in-None
returns-in-None c = λ world stands. rw (← c.in-None.ensures world.tree stands.pages) refl
