-- What is left to take out of what is left comes to what is to be left.
use Rattle.std.proofs.Common.{◌≡◌, ◌≤◌}
use Rattle.std.specs.Prelude.{drop}
use Rattle.publishing.specs.Times.{without_all}
use Rattle.publishing.proofs.gone.drop_pages.Given as goal

abbrev pub invariant-loop-number : goal.invariant-loop-number
invariant-loop-number l =
    record {
      expiries : without_all (drop l.number-index l.pages) l.times.expiries.entries
          ≡ without_all l.pages l.initial.times.expiries.entries;
      go_lives : without_all (drop l.number-index l.pages) l.times.go_lives.entries
          ≡ without_all l.pages l.initial.times.go_lives.entries;
      expiries_room : l.initial.times.expiries.spare ≤ l.times.expiries.spare;
      go_lives_room : l.initial.times.go_lives.spare ≤ l.times.go_lives.spare;
    }
