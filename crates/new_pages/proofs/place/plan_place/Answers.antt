-- The parent is there, and then the path, the slug and the URL are tried.
use Rattle.std.proofs.Common.{sym, ◌∙◌}
use Rattle.new_pages.proofs.CreationPlan.{url_seen, place_refused, place_found}
use Rattle.new_pages.proofs.LookUpLemmas.{row_there}
use Rattle.new_pages.proofs.place.plan_place.Goals as goal

pub plan_url-url-requires : goal.plan_url-url-requires
plan_url-url-requires c =
    row_there c.args.parent c.requires.0.tree c.args.rows.now.pages c.requires.1 ∙ c.requires.3

pub plan_append-path-requires : goal.plan_append-path-requires
plan_append-path-requires c = record {
  there = row_there c.args.parent c.requires.0.tree c.args.rows.now.pages c.requires.1 ∙ c.requires.3;
}

pub returns-in-Ok : goal.returns-in-Ok
returns-in-Ok c = λ part body rows sound there.
    place_found part sound c.args.parent c.args.slug.now body there c.plan_append-path.result
    (c.plan_append-path.ensures part.tree rows) c.plan_url-url.result
    (url_seen part c.args.rows.now.pages c.args.parent c.args.slug.now c.plan_url-url.result sound
    c.len-len.ensures.pages rows there c.plan_url-url.ensures) c.in-Ok.path c.in-Ok.url
    (sym c.in-Ok.is ∙ c.both.ensures)

pub returns-in-Err : goal.returns-in-Err
returns-in-Err c = λ part body rows sound there.
    place_refused part sound c.args.parent c.args.slug.now body there c.plan_append-path.result
    (c.plan_append-path.ensures part.tree rows) c.plan_url-url.result
    (url_seen part c.args.rows.now.pages c.args.parent c.args.slug.now c.plan_url-url.result sound
    c.len-len.ensures.pages rows there c.plan_url-url.ensures) c.in-Err.fault
    (sym c.in-Err.is ∙ c.both.ensures)
