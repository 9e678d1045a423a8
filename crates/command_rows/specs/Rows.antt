-- The row of a command in memory, as the model has it.
use Rattle.std.specs.Prelude.{ℕ, List, [], ◌∷◌}
use Rattle.site_model.specs.Front as front
use Rattle.command_rows.specs.declared.row.Stops.{Stops}
use Rattle.command_rows.specs.declared.row.Stops.TheVariants as stops
use Rattle.command_rows.specs.declared.row.Named.{Named}
use Rattle.command_rows.specs.declared.row.Named.TheVariants as named
use Rattle.command_rows.specs.declared.row.CommandRow.{CommandRow}

-- whom a lock or a moderation stops, as the model has it
abbrev pub seen_stops : Stops → front.Stops
seen_stops stops.Nobody = front.StopsNobody
seen_stops stops.Others = front.StopsOthers
seen_stops stops.Everyone = front.StopsEveryone

-- the pages that are named, in their order
abbrev pub pages_in : Named → List ℕ
pages_in named.Nothing = []
pages_in (named.One page) = page ∷ []
pages_in (named.Two page other) = page ∷ other ∷ []

-- the row as the model has it
abbrev pub seen_row : CommandRow → front.CommandRow
seen_row row =
    record {
      named = pages_in row.named;
      below_root = pages_in row.below_root;
      page = row.page;
      lock = seen_stops row.lock;
      alias = row.alias;
      moderation = seen_stops row.moderation;
    }
