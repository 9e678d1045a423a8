-- The moments and the sources of the pages so far are taken out.
use Rattle.std.proofs.Common.{◌≡◌, ◌≤◌, map, take, drop}
use Rattle.publishing.specs.Times.{without_all}
use Rattle.part_commits.specs.InStep.{without_aliases}
use Rattle.part_commits.proofs.leaving.drop_between.Given as goal

abbrev pub invariant-loop-done : goal.invariant-loop-done
invariant-loop-done l =
    record {
      expiries : l.times.expiries.entries
          ≡ without_all (map (λ row. row.id) (take l.done (drop l.place l.rows.pages)))
          l.initial.times.expiries.entries;
      go_lives : l.times.go_lives.entries
          ≡ without_all (map (λ row. row.id) (take l.done (drop l.place l.rows.pages)))
          l.initial.times.go_lives.entries;
      pairs : l.aliases.pairs
          ≡ without_aliases (map (λ row. row.id) (take l.done (drop l.place l.rows.pages)))
          l.initial.aliases.pairs;
      expiries_room : l.initial.times.expiries.spare ≤ l.times.expiries.spare;
      go_lives_room : l.initial.times.go_lives.spare ≤ l.times.go_lives.spare;
      aliases_room : l.initial.aliases.spare ≤ l.aliases.spare;
    }
