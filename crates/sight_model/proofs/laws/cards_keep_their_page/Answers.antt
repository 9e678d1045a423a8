-- A card has the id of the row that it was made of.
use Rattle.sight_model.proofs.CardLemmas.{card_page}
use Rattle.sight_model.proofs.laws.cards_keep_their_page.Goals as goal

pub returns : goal.returns
returns c = card_page
