-- What is left to put in leads to all that is to be put in, and there is room for it.
use Rattle.std.proofs.Common.{◌≡◌, ◌≤◌, ◌+◌, ℕ, drop}
use Rattle.link_index.specs.Pairs.{has_pair}
use Rattle.link_plans.specs.Told.{links_told, total_links}
use Rattle.link_plans.proofs.put.put_links.Given as goal

abbrev pub invariant-loop-one : goal.invariant-loop-one
invariant-loop-one l =
    record {
      there : (linked page : ℕ) →
          links_told (drop l.one-index l.planned) page linked (has_pair linked page l.index.pairs)
          ≡ links_told l.planned page linked (has_pair linked page l.initial.index.pairs);
      room : total_links (drop l.one-index l.planned) ≤ l.index.spare;
      spare : l.initial.index.spare + total_links (drop l.one-index l.planned)
          ≤ l.index.spare + total_links l.planned;
    }
