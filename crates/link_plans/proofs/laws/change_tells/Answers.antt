-- What the change tells is what it makes.
use Rattle.link_plans.proofs.FitLemmas.{change_tells}
use Rattle.link_plans.proofs.laws.change_tells.Goals as goal

pub returns : goal.returns
returns c = λ pages revisions change rise fits bodies rows before after.
    change_tells pages revisions change rise fits bodies rows before after
