-- The pages are those of the desks so far that end.
use Rattle.std.proofs.Common.{◌≡◌, take, filter}
use Rattle.site_model.specs.World as worlds
use Rattle.site_part.specs.Plans.{pages_of}
use Rattle.lost_desks.specs.Losses.{is_lost_by}
use Rattle.lost_desks.specs.Staying.{HasDesksOf}
use Rattle.lost_desks.proofs.loss.lost_desks.Given as goal

abbrev pub invariant-loop-place : goal.invariant-loop-place
invariant-loop-place l =
    (world : worlds.TreePart) → HasDesksOf world l.part →
    l.pages.items ≡ pages_of (filter (is_lost_by world l.loss) (take l.place world.desk_pairs))
