-- One row more: its URL gets too long, or not.
use Rattle.std.proofs.Common.{◌≡◌, ◌+◌, length, slice_get, sym, ap, ◌∙◌, arith}
use Rattle.page_store.specs.Pages.{Page}
use Rattle.tree_model.specs.Limits.{MAX_URL}
use Rattle.new_pages.specs.Copying.{is_long}
use Rattle.new_pages.proofs.SourceLemmas.{element_at, some_in, none_more, is_past, not_past}
use Rattle.new_pages.proofs.source.gets_too_long.Goals as goal

pub returns-then-saturating_add-gt-MAX_URL_BYTES : goal.returns-then-saturating_add-gt-MAX_URL_BYTES
returns-then-saturating_add-gt-MAX_URL_BYTES c =
    let pages = c.args.rows.now.pages in
    let source = c.args.source.now in
    let one = element_at (λ (row : Page). row.url)
    (slice_get pages (source.start + c.loop-done.done)) c.url_at.result.now c.url_at.ensures in
    let long : c.len.result ≡ length one.0.url = c.len.ensures ∙ ap length one.2 in
    let new = c.len-new.ensures in
    let less = c.saturating_sub-more.ensures in
    let sum = c.saturating_add.ensures in
    let over = c.if-saturating_add-gt-MAX_URL_BYTES.true in
    sym (some_in (is_long source c.args.url.now) pages source.start source.rest c.loop-done.done
    one.0 one.1 c.loop-done-test.true
    (is_past MAX_URL source.url_length c.args.url.now one.0.url
    c.saturating_sub-more.result (c.len-new.result + c.saturating_sub-more.result)
    (omega (arith, long, less)) (omega (arith, new)) (omega (arith, over, sum))))

pub loop-done-preserved : goal.loop-done-preserved
loop-done-preserved c =
    let pages = c.args.rows.now.pages in
    let source = c.args.source.now in
    let one = element_at (λ (row : Page). row.url)
    (slice_get pages (source.start + c.loop-done.done)) c.url_at.result.now c.url_at.ensures in
    let long : c.len.result ≡ length one.0.url = c.len.ensures ∙ ap length one.2 in
    let new = c.len-new.ensures in
    let less = c.saturating_sub-more.ensures in
    let sum = c.saturating_add.ensures in
    let fits = c.if-saturating_add-gt-MAX_URL_BYTES.false in
    none_more (is_long source c.args.url.now) pages source.start c.loop-done.done one.0 one.1
    c.loop-done.invariant
    (not_past MAX_URL source.url_length c.args.url.now one.0.url
    c.saturating_sub-more.result (c.len-new.result + c.saturating_sub-more.result)
    (omega (arith, long, less)) (omega (arith, new)) (omega (arith, fits, sum)))
