-- A lock is no part of what the tables tell.
use Rattle.std.proofs.Common.{refl, ap, ◌∙◌}
use Rattle.site_types.specs.declared.body.Body.{Body}
use Rattle.page_store.specs.Changes.{with_body}
use Rattle.publishing.proofs.TimesLemmas.{timed-same}
use Rattle.publishing.proofs.live.lock.Goals as goal

pub returns-clause-timed : goal.returns-clause-timed
returns-clause-timed c = λ times revisions timed.
    let is = c.set_body.ensures.pages
    ∙ ap (λ (b : Body). with_body c.args.page b c.args.rows.now.pages) c.locked_body-body.ensures in
    timed-same times _ _ revisions c.args.page c.body_of.result _ c.body_of.ensures is refl refl timed
