-- The page at the place has its URL.
use Rattle.page_store.specs.Pages.{Page}
use Rattle.new_pages.proofs.SourceLemmas.{read_at, never_missing}
use Rattle.new_pages.proofs.source.url_at.Goals as goal

pub unreachable-requires-in_default-url : goal.unreachable-requires-in_default-url
unreachable-requires-in_default-url c =
    never_missing (λ (row : Page). row.url) c.args.rows.now.pages c.args.place c.in-Some.page
    c.len-len.ensures.pages c.in-Some.ensures c.in_default-url.ensures

pub returns : goal.returns
returns c =
    read_at (λ (row : Page). row.url) c.args.rows.now.pages c.args.place c.in-Some.page
    c.in-Some-url.url.now c.len-len.ensures.pages c.in-Some.ensures c.in-Some-url.ensures
