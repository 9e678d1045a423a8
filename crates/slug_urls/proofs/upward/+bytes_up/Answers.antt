-- The page above is less deep, and its URL comes before the page's slug.
use Rattle.std.proofs.Common.{List, ℕ, ap, ◌∙◌, rules}
use Rattle.std.specs.Option.{option_map}
use Rattle.page_tree.specs.Rows.{child_url, row_with}
use Rattle.page_store.specs.Pages.{Page}
use Rattle.slug_urls.proofs.UpLemmas.{ok_as, parent_is_up, url_from_parent, url_from_none}
use Rattle.slug_urls.proofs.upward.+bytes_up.Goals as goal

pub bytes_up-requires : goal.bytes_up-requires
bytes_up-requires t c =
    let up = parent_is_up c.args.rows.now.pages c.len-len.ensures.pages c.args.id c.in-Some.parent
    c.in-Some.ensures in
    let there = up.there in
    let less = up.less_deep in
    search rules

pub returns-in_ok-above-in-Some : goal.returns-in_ok-above-in-Some
returns-in_ok-above-in-Some t c tree same =
    ok_as c.with_slug.result _ _ (λ bytes is. is ∙ url_from_parent c.args.rows.now.pages
    c.len-len.ensures.pages c.args.id tree same c.in-Some.parent c.in_ok-above-in-Some.above.items
    c.in-Some.ensures (c.in_ok-above-in-Some.ensures tree same)) c.with_slug.ensures

pub returns-in-None : goal.returns-in-None
returns-in-None t c tree same =
    ok_as c.with_slug-in-None.result _ _ (λ bytes is. is ∙ (ap (λ (s : List ℕ). option_map
    (λ (row : Page). child_url s row.slug) (row_with c.args.id c.args.rows.now.pages)) c.new.ensures.items
    ∙ url_from_none c.args.rows.now.pages c.len-len.ensures.pages c.args.id tree same
    c.in-None.ensures)) c.with_slug-in-None.ensures
