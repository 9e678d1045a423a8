-- A lock ends the desk of another on its page.
use Rattle.site_model.proofs.LosingFacts.{lock_ends_others}
use Rattle.site_model.proofs.laws.lock_ends_others.Goals as goal

pub returns : goal.returns
returns c = lock_ends_others
