-- Both lists rise, and have the same pages.
use Rattle.link_plans.proofs.RefLaws.{pairs_refs}
use Rattle.link_plans.proofs.laws.pairs_have_refs.Goals as goal

pub returns : goal.returns
returns c = λ part pairs id are rise linked. pairs_refs part pairs id are rise linked
