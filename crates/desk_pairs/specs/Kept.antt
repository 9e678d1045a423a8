-- What the open desks that are kept are seen as.
use Rattle.std.specs.Prelude.{ℕ, ◌==◌, List, map, Option, Some, None, if◌then◌else◌}
use Rattle.site_model.specs.World.{DeskPair}
use Rattle.desk_pairs.specs.Pairs.{pair_of}
use Rattle.desk_pairs.specs.declared.pairs.Pair.{Pair}

-- an open desk that is kept, as the model has it
abbrev pub pair_seen : Pair → DeskPair
pair_seen pair = pair_of pair.page pair.user

-- the open desks that are kept, as the model has them
abbrev pub pairs_seen : List Pair → List DeskPair
pairs_seen kept = map pair_seen kept

-- the user of a desk that is on this page
abbrev pub user_told : ℕ → Option DeskPair → Option ℕ
user_told page None = None
user_told page (Some pair) = if pair.page == page then Some pair.user else None
