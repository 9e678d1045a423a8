-- The copy has its own row, and one more comes for each page below.
use Rattle.std.proofs.Common.{◌+◌, slice_get, ◌∙◌, arith}
use Rattle.page_store.specs.Pages.{Page}
use Rattle.page_copies.specs.Copied.{copy_row}
use Rattle.new_pages.specs.Copying.{moved_row}
use Rattle.new_pages.proofs.CopiedLemmas.{ids_left, rows_more}
use Rattle.new_pages.proofs.SourceLemmas.{element_at}
use Rattle.new_pages.proofs.copied_rows.coming_rows.Goals as goal

pub ids_at-page-requires : goal.ids_at-page-requires
ids_at-page-requires c =
    let ids = ids_left c.args.part.now c.requires.0 c.requires.1 c.args.source.now.rest 0
    c.requires.3 (omega arith) in
    record { page = ids.0; revision = ids.1 }

pub loop-done-preserved : goal.loop-done-preserved
loop-done-preserved c = λ world ready left.
    let pages = c.args.part.now.rows.pages in
    let source = c.args.source.now in
    let one = element_at (λ (page : Page). copy_row world c.args.caller (1 + c.loop-done.done)
    (moved_row source c.args.place.now page)) (slice_get pages (source.start + c.loop-done.done))
    c.in_ok-row.row (c.in_ok-row.ensures world ready left) in
    c.in_ok-push-2.ensures.items
    ∙ rows_more world c.args.caller source.start c.loop-done.done (moved_row source c.args.place.now)
    pages one.0 _ c.in_ok-row.row c.loop-done.rows.items one.1 one.2
    (c.loop-done.invariant world ready left)
