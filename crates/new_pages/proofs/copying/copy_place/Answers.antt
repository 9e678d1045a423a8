-- The parent is there, and then the paths, the slug and the URLs are tried.
use Rattle.std.proofs.Common.{sym, ap, ◌∙◌}
use Rattle.new_pages.specs.Copying.{path_within}
use Rattle.new_pages.specs.Faults.{both_of}
use Rattle.new_pages.proofs.CopyPlaces.{row_found, copy_refused, copy_placed}
use Rattle.new_pages.proofs.CreationPlan.{url_seen}
use Rattle.new_pages.proofs.LookUpLemmas.{row_there}
use Rattle.new_pages.proofs.copying.copy_place.Goals as goal

pub plan_url-requires : goal.plan_url-requires
plan_url-requires c =
    row_there c.args.parent c.requires.0.tree c.args.rows.now.pages c.requires.3 ∙ c.requires.5

pub plan_append-requires : goal.plan_append-requires
plan_append-requires c = record {
  there = row_there c.args.parent c.requires.0.tree c.args.rows.now.pages c.requires.3 ∙ c.requires.5;
}

pub returns-in-Ok : goal.returns-in-Ok
returns-in-Ok c = λ part caller page deep rows sound there source outside.
    let above = row_found part.tree c.args.parent there in
    copy_placed part sound c.args.rows.now.pages rows caller page c.args.parent c.args.slug.now deep
    there c.args.source.now source above.0 above.1 outside c.plan_append.result
    (c.plan_append.ensures part.tree rows) c.plan_url.result
    (url_seen part c.args.rows.now.pages c.args.parent c.args.slug.now c.plan_url.result sound
    c.len-len.ensures.pages rows there c.plan_url.ensures) c.in-Ok.path c.in-Ok.url
    (sym c.in-Ok.is
    ∙ (c.both.ensures
    ∙ (ap (λ p. both_of p c.short_url-url.result) c.short_path-path.ensures
    ∙ ap (both_of (path_within c.args.rows.now.pages c.args.source.now c.plan_append.result))
    c.short_url-url.ensures)))

pub returns-in-Err : goal.returns-in-Err
returns-in-Err c = λ part caller page deep rows sound there source outside.
    let above = row_found part.tree c.args.parent there in
    copy_refused part sound c.args.rows.now.pages rows caller page c.args.parent c.args.slug.now deep
    there c.args.source.now source above.0 above.1 outside c.plan_append.result
    (c.plan_append.ensures part.tree rows) c.plan_url.result
    (url_seen part c.args.rows.now.pages c.args.parent c.args.slug.now c.plan_url.result sound
    c.len-len.ensures.pages rows there c.plan_url.ensures) c.in-Err.fault
    (sym c.in-Err.is
    ∙ (c.both.ensures
    ∙ (ap (λ p. both_of p c.short_url-url.result) c.short_path-path.ensures
    ∙ ap (both_of (path_within c.args.rows.now.pages c.args.source.now c.plan_append.result))
    c.short_url-url.ensures)))
