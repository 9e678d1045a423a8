-- The card is made of the page's row, its URL, what it shows and its kids.
use Rattle.std.proofs.Common.{option_copied}
use Rattle.site_core.proofs.CardLemmas.{card_told}
use Rattle.site_core.proofs.showing.card_in.Goals as goal

pub returns : goal.returns
returns c = λ world pages revisions.
    card_told world c.args.id c.args.rows.now.pages c.in-Some.row.now c.in-Some-url.url.now
    c.args.shelf.now.revisions c.is_live_by-live.result (option_copied c.find_shown-shown.result)
    c.in_ok-kids.kids c.in_ok-card.card pages revisions c.in-Some.ensures c.in-Some-url.ensures
    (c.is_live_by-live.ensures world.part.tree pages)
    (c.find_shown-shown.ensures world.part.tree pages)
    (c.in_ok-kids.ensures world pages revisions) c.in_ok-card.ensures
