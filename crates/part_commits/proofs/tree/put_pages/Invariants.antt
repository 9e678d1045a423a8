-- The rows that are left, put in after those that are, come to all of them, and the aliases
-- are in step.
use Rattle.std.proofs.Common.{◌≡◌, ◌+◌, ◌≤◌, length}
use Rattle.flat_model.specs.Fits.{PagesFit}
use Rattle.flat_model.specs.Made.{with_pages}
use Rattle.link_plans.specs.PageLinks.{AreAliases}
use Rattle.part_commits.proofs.tree.put_pages.Given as goal

abbrev pub invariant-loop-row : goal.invariant-loop-row
invariant-loop-row l =
    record {
      rows : with_pages l.row-iterator.rest.items l.rows.pages
          ≡ with_pages l.initial.row-iterator.rest.items l.initial.rows.pages;
      fits : PagesFit l.row-iterator.rest.items l.rows.pages;
      left : l.row-iterator.rest.len ≡ length l.row-iterator.rest.items;
      room : length l.row-iterator.rest.items ≤ l.rows.spare;
      places : l.initial.aliases.spare + length l.row-iterator.rest.items
          ≤ l.aliases.spare + length l.initial.row-iterator.rest.items;
      aliased : AreAliases l.initial.aliases.pairs l.initial.rows.pages
          → AreAliases l.aliases.pairs l.rows.pages;
    }
