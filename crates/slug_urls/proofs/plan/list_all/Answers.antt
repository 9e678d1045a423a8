-- The page at each place of the range is there, and its pair is put behind those so far.
use Rattle.std.proofs.Common.{IsSome, sym, subst, ◌+◌, ◌∙◌, rules, arith}
use Rattle.page_tree.specs.Rows.{child_url}
use Rattle.slug_urls.proofs.Listing.{page_at_place, listed_more, not_listed}
use Rattle.slug_urls.proofs.plan.list_all.Goals as goal

pub new_url-requires : goal.new_url-requires
new_url-requires c =
    let here = page_at_place c.args.rows.now.pages (c.args.place + c.loop-done.done) c.in-Some.id
    c.len-len.ensures.pages c.in-Some.ensures in
    subst IsSome (sym here.found) (search rules)

pub returns-in_default-2 : goal.returns-in_default-2
returns-in_default-2 c =
    let here = page_at_place c.args.rows.now.pages (c.args.place + c.loop-done.done) c.in-Some.id
    c.len-len.ensures.pages c.in-Some.ensures in
    not_listed c.args.rows.now.pages c.args.place c.args.count c.loop-done.done c.args.old
    c.in-Some.id
    (child_url c.args.above.now c.args.slug.now) here (omega arith)
    (sym c.in_default-2.is ∙ c.in_ok-url.ensures here.row here.found)

pub loop-done-preserved : goal.loop-done-preserved
loop-done-preserved c =
    let here = page_at_place c.args.rows.now.pages (c.args.place + c.loop-done.done) c.in-Some.id
    c.len-len.ensures.pages c.in-Some.ensures in
    listed_more c.args.rows.now.pages c.args.place c.loop-done.done c.args.old c.in-Some.id
    (child_url c.args.above.now c.args.slug.now) c.in-Some-2.url c.loop-done.pairs.items
    c.push.new.self.items c.loop-done.invariant here
    (sym c.in-Some-2.is ∙ c.in_ok-url.ensures here.row here.found) c.in_ok-push.ensures.items
