-- Where the URL of the page changes, the pages of its range are listed.
use Rattle.std.proofs.Common.{List, ℕ, ap, sym, map, take, drop, ◌∙◌}
use Rattle.std.specs.Str.{bytes_eq}
use Rattle.page_tree.specs.Rows.{child_url}
use Rattle.slug_urls.specs.Flat.{moved_from, if_all_fit}
use Rattle.slug_urls.proofs.UpLemmas.{ok_as}
use Rattle.slug_urls.proofs.Listing.{listed_below}
use Rattle.slug_urls.proofs.plan.list_urls.Goals as goal

pub returns : goal.returns
returns c =
    ok_as c.list_all.result _ _ (λ urls is. is ∙ (ap (λ (old : ℕ). if_all_fit
    (map (moved_from old (child_url c.args.above.now c.args.slug.now))
    (take c.in-Some.count (drop c.in-Some.place c.args.rows.now.pages)))) c.len.ensures
    ∙ listed_below c.args.rows.now.pages c.args.page c.in-Some.place c.in-Some.count
    c.in-Some-url.old.now (child_url c.args.above.now c.args.slug.now) c.in-Some-url.ensures
    c.in-Some.ensures.range (sym (ap (λ (url : List ℕ). bytes_eq url
    (child_url c.args.above.now c.args.slug.now)) c.as_slice.ensures)
    ∙ (sym c.is_below.ensures ∙ c.if-is_below.false)))) c.list_all.ensures
