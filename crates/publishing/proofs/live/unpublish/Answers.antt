-- A page that is neither live nor scheduled has no moments.
use Rattle.std.proofs.Common.{ap, ◌∙◌}
use Rattle.site_types.specs.declared.body.Body.{Body}
use Rattle.page_store.specs.Changes.{with_body}
use Rattle.publishing.proofs.TimesLemmas.{timed-with_body}
use Rattle.publishing.proofs.live.unpublish.Goals as goal

pub returns-clause-timed : goal.returns-clause-timed
returns-clause-timed c = λ revisions timed.
    let is = c.set_body.ensures.pages
    ∙ ap (λ (b : Body). with_body c.args.page b c.args.rows.now.pages) c.unpublished_body-body.ensures in
    timed-with_body c.args.times.now _ _ _ revisions c.args.page _ c.requires c.clear.ensures.entries
    c.clear-2.ensures.entries is timed
