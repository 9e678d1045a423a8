-- The page has no moments any more.
use Rattle.std.proofs.Common.{[], ◌∷◌}
use Rattle.publishing.proofs.TimesLemmas.{timed-left}
use Rattle.publishing.proofs.gone.drop_page.Goals as goal

pub returns-clause-timed : goal.returns-clause-timed
returns-clause-timed c = λ pages after revisions timed are.
    timed-left (c.args.page ∷ []) c.args.times.now _ pages after revisions c.clear.ensures.entries
    c.clear-2.ensures.entries timed are
