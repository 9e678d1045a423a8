-- The page at the place has its row.
use Rattle.page_store.specs.PageRows.{page_row}
use Rattle.new_pages.proofs.SourceLemmas.{read_at, never_missing}
use Rattle.new_pages.proofs.source.row_at.Goals as goal

pub unreachable-requires-in_default-row : goal.unreachable-requires-in_default-row
unreachable-requires-in_default-row c =
    never_missing page_row c.args.rows.now.pages c.args.place c.in-Some.page c.len-len.ensures.pages
    c.in-Some.ensures c.in_default-row.ensures

pub returns : goal.returns
returns c =
    read_at page_row c.args.rows.now.pages c.args.place c.in-Some.page c.in-Some-row.row.now
    c.len-len.ensures.pages c.in-Some.ensures c.in-Some-row.ensures
