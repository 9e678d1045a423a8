-- The ids that are kept are those that the page needs.
use Rattle.std.proofs.Common.{ap, ◌∙◌, ◌∷◌, []}
use Rattle.revision_shelf.specs.Shelf.{purged}
use Rattle.part_commits.specs.Purging.{number_of}
use Rattle.part_commits.proofs.PurgeLemmas.{purged_is}
use Rattle.part_commits.proofs.going.purge_page.Goals as goal

pub returns-clause-revisions : goal.returns-clause-revisions
returns-clause-revisions c =
    let purge = c.args.purge.now in
    let before = c.args.shelf.now.revisions in
    c.purge-gone.ensures.revisions
    ∙ (ap (λ n. purged purge.page (n ∷ c.number_of-latest.result ∷ c.number_of-scheduled.result
    ∷ c.number_of-moderated.result ∷ []) before) c.number_of-shown.ensures
    ∙ (ap (λ n. purged purge.page (number_of purge.shown ∷ n ∷ c.number_of-scheduled.result
    ∷ c.number_of-moderated.result ∷ []) before) c.number_of-latest.ensures
    ∙ (ap (λ n. purged purge.page (number_of purge.shown ∷ number_of purge.latest ∷ n
    ∷ c.number_of-moderated.result ∷ []) before) c.number_of-scheduled.ensures
    ∙ (ap (λ n. purged purge.page (number_of purge.shown ∷ number_of purge.latest
    ∷ number_of purge.scheduled ∷ n ∷ []) before) c.number_of-moderated.ensures
    ∙ purged_is purge 0 before c.len-len.ensures.rises))))
