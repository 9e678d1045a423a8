-- The lemmas on rising pages.
use Rattle.desks.proofs.RiseLemmas.{one_more_rises, texts_rise, some_rise}
use Rattle.desks.proofs.laws.still_rise.Goals as goal

pub returns : goal.returns
returns c =
    record { with_desk_rises = one_more_rises; with_text_rises = texts_rise; some_rise = some_rise }
