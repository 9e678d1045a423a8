-- The row of the source is the one that its card is made of.
use Rattle.sight_model.proofs.AliasLemmas.{alias_shows}
use Rattle.sight_model.proofs.laws.aliases_show_their_source.Goals as goal

pub returns : goal.returns
returns c = alias_shows
