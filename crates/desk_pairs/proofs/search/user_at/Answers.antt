-- Whose desk is on the page is told by what stands at its place.
use Rattle.std.proofs.Common.{◌∙◌}
use Rattle.desk_pairs.specs.Kept.{pairs_seen}
use Rattle.desk_pairs.proofs.PairLemmas.{told_by_place}
use Rattle.desk_pairs.proofs.search.user_at.Goals as goal

pub returns : goal.returns
returns c =
    c.told_at.ensures
    ∙ rw (c.place_at.ensures) (told_by_place c.args.page (pairs_seen c.args.pairs.now) c.requires)
