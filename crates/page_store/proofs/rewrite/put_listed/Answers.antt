-- The paths are put, then the URLs, and then the counts are cleared.
use Rattle.page_store.proofs.RewriteLemmas.{all_put, either_steps}
use Rattle.page_store.proofs.rewrite.put_listed.Goals as goal

pub returns-clause-rows : goal.returns-clause-rows
returns-clause-rows g c =
    all_put _ _ _ _ _ _ _ _ c.requires.texts c.as_slice-paths.ensures c.into_vec.ensures
    c.put_paths.ensures.rows c.put_urls.ensures.rows c.clear_counts.ensures.rows

pub returns-clause-steps : goal.returns-clause-steps
returns-clause-steps g c =
    either_steps _ _ _ _ _ _ _ _ _ c.as_slice-paths.ensures c.into_vec.ensures c.put_paths.ensures.rows
    c.put_paths.ensures.steps c.put_urls.ensures.steps
