-- A URL begins with `/`, and what follows leads from the root to its page.
use Rattle.std.proofs.Common.{ap, get_or, List, ℕ}
use Rattle.slug_urls.proofs.Descents.{page_found, page_missed, not_empty, slash_first}
use Rattle.slug_urls.proofs.downward.walk.Goals as goal

pub returns-then-is_empty : goal.returns-then-is_empty
returns-then-is_empty c tree same slugs =
    page_missed c.args.rows.now.pages tree c.args.url.now c.len-len.ensures.pages same slugs
    (λ rest is. not_empty c.args.url.now rest c.is_empty.result c.is_empty.ensures c.if-is_empty.true is)

pub returns-then-url-ne47 : goal.returns-then-url-ne47
returns-then-url-ne47 c tree same slugs =
    page_missed c.args.rows.now.pages tree c.args.url.now c.len-len.ensures.pages same slugs
    (λ rest is. c.if-url-ne47.true (ap (λ (u : List ℕ). get_or u 0 0) is))

pub returns : goal.returns
returns c tree same slugs =
    page_found c.args.rows.now.pages tree c.args.url.now _ c.go_down.result c.len-len.ensures.pages same slugs
    (c.go_down.ensures slugs) (slash_first c.args.url.now c.if-url-ne47.false)
