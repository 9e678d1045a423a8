-- What is left to put in leads to all that is to be put in.
use Rattle.std.proofs.Common.{◌≡◌, ◌≤◌, ◌+◌, drop}
use Rattle.link_index.specs.Pairs.{with_firsts}
use Rattle.link_index.proofs.link_index.LinkIndex.add_links.Given as goal

abbrev pub invariant-loop-linked : goal.invariant-loop-linked
invariant-loop-linked l =
    record {
      left : with_firsts l.page (drop l.linked-index l.links) l.self.pairs
          ≡ with_firsts l.page l.links l.initial.self.pairs;
      room : l.initial.self.spare ≤ l.self.spare + l.linked-index;
    }
