-- The fields that are left, put after those that are, come to all of them; the tables are in step
-- but for the pages that are left, and so are the aliases.
use Rattle.std.proofs.Common.{◌≡◌, ◌≤◌, length}
use Rattle.flat_model.specs.Fits.{BodiesFit}
use Rattle.flat_model.specs.Made.{with_bodies}
use Rattle.link_plans.specs.PageLinks.{AreAliases}
use Rattle.part_commits.specs.InStep.{TimedBut}
use Rattle.part_commits.proofs.bodies.put_bodies.Given as goal

abbrev pub invariant-loop-page : goal.invariant-loop-page
invariant-loop-page l =
    record {
      rows : with_bodies l.page-iterator.rest.items l.rows.pages
          ≡ with_bodies l.initial.page-iterator.rest.items l.initial.rows.pages;
      left : l.page-iterator.rest.len ≡ length l.page-iterator.rest.items;
      fits : BodiesFit l.page-iterator.rest.items l.rows.pages;
      expiries : length l.page-iterator.rest.items ≤ l.times.expiries.spare;
      go_lives : length l.page-iterator.rest.items ≤ l.times.go_lives.spare;
      places : length l.page-iterator.rest.items ≤ l.aliases.spare;
      aliased : AreAliases l.initial.aliases.pairs l.initial.rows.pages
          → AreAliases l.aliases.pairs l.rows.pages;
      timed : TimedBut l.initial.page-iterator.rest.items l.initial.times l.initial.rows.pages
          l.shelf.revisions
          → TimedBut l.page-iterator.rest.items l.times l.rows.pages l.shelf.revisions;
    }
