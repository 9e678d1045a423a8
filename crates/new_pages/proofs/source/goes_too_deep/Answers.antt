-- One row more: it goes too deep, or not.
use Rattle.std.proofs.Common.{◌≡◌, ◌+◌, length, slice_get, sym, ap, arith}
use Rattle.step_path.specs.declared.path.TheConstants.{MAX_DEPTH}
use Rattle.site_types.specs.declared.page_row.PageRow.{PageRow}
use Rattle.page_store.specs.PageRows.{page_row}
use Rattle.new_pages.specs.Copying.{is_deep}
use Rattle.new_pages.proofs.SourceLemmas.{element_at, some_in, none_more, is_past, not_past}
use Rattle.new_pages.proofs.source.goes_too_deep.Goals as goal

pub returns-then-new-more-gt-MAX_DEPTH : goal.returns-then-new-more-gt-MAX_DEPTH
returns-then-new-more-gt-MAX_DEPTH c =
    let pages = c.args.rows.now.pages in
    let source = c.args.source.now in
    let one = element_at page_row (slice_get pages (source.start + c.loop-done.done))
    c.row_at-row.result.now c.row_at-row.ensures in
    let depth : c.row_at-row.result.now.depth ≡ length one.0.path =
    ap (λ (r : PageRow). r.depth) one.2 in
    let old = c.depth-old.ensures.value in
    let new = c.depth-new.ensures.value in
    let less = c.saturating_sub-more.ensures in
    let over = c.if-new-more-gt-MAX_DEPTH.true in
    sym (some_in (is_deep source c.args.path.now) pages source.start source.rest c.loop-done.done
    one.0 one.1 c.loop-done-test.true
    (is_past MAX_DEPTH (length source.path) c.args.path.now one.0.path
    c.saturating_sub-more.result (c.depth-new.result + c.saturating_sub-more.result)
    (omega (arith, depth, old, less)) (omega (arith, new)) (omega (arith, over))))

pub loop-done-preserved : goal.loop-done-preserved
loop-done-preserved c =
    let pages = c.args.rows.now.pages in
    let source = c.args.source.now in
    let one = element_at page_row (slice_get pages (source.start + c.loop-done.done))
    c.row_at-row.result.now c.row_at-row.ensures in
    let depth : c.row_at-row.result.now.depth ≡ length one.0.path =
    ap (λ (r : PageRow). r.depth) one.2 in
    let old = c.depth-old.ensures.value in
    let new = c.depth-new.ensures.value in
    let less = c.saturating_sub-more.ensures in
    let fits = c.if-new-more-gt-MAX_DEPTH.false in
    none_more (is_deep source c.args.path.now) pages source.start c.loop-done.done one.0 one.1
    c.loop-done.invariant
    (not_past MAX_DEPTH (length source.path) c.args.path.now one.0.path
    c.saturating_sub-more.result (c.depth-new.result + c.saturating_sub-more.result)
    (omega (arith, depth, old, less)) (omega (arith, new)) (omega (arith, fits)))
