-- One page more comes, with its source.
use Rattle.std.proofs.Common.{◌≡◌, ℕ, ◌∷◌, List, length, sym, ap, subst, ◌∙◌, arith}
use Rattle.site_types.specs.declared.page_row.PageRow.{PageRow}
use Rattle.flat_model.specs.Fits.{PagesFit}
use Rattle.flat_model.specs.Made.{with_pages}
use Rattle.part_commits.proofs.tree.put_pages.Goals as goal

pub loop-row-preserved : goal.loop-row-preserved
loop-row-preserved c =
    let at = c.loop-row.invariant in
    let next : c.loop-row.row-iterator.rest.items
    ≡ (c.in-Some.row, c.in-Some.url) ∷ c.next.new.self.rest.items = c.in-Some.ensures.steps.0 in
    let fits = subst (λ (rows : List (PageRow × List ℕ)). PagesFit rows c.loop-row.rows.pages) next
    at.fits in
    let size = ap length next in
    record {
      rows = ap (with_pages c.next.new.self.rest.items) c.put_page.ensures.pages
          ∙ (ap (λ (rows : List (PageRow × List ℕ)). with_pages rows c.loop-row.rows.pages)
          (sym next) ∙ at.rows);
      fits = subst (PagesFit c.next.new.self.rest.items) (sym c.put_page.ensures.pages) fits.2;
      left = let was = at.left in let gone = c.in-Some.ensures.steps.1 in
          omega (arith, size, was, gone);
      room = omega (arith, size, at.room, c.put_page.ensures.rows_spare);
      places = omega (arith, size, at.places, c.put_page.ensures.aliases_spare);
      aliased = λ aliased. c.put_page.ensures.aliased (at.aliased aliased);
    }

pub put_page-requires-clause-new : goal.put_page-requires-clause-new
put_page-requires-clause-new c =
    let next : c.loop-row.row-iterator.rest.items
    ≡ (c.in-Some.row, c.in-Some.url) ∷ c.next.new.self.rest.items = c.in-Some.ensures.steps.0 in
    (subst (λ (rows : List (PageRow × List ℕ)). PagesFit rows c.loop-row.rows.pages) next
    c.loop-row.invariant.fits).0
