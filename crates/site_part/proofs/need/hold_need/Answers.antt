-- What is held decides.
use Rattle.site_part.proofs.NeedLemmas.{hold_met, hold_unmet}
use Rattle.site_part.proofs.need.hold_need.Goals as goal

pub returns-then-holds : goal.returns-then-holds
returns-then-holds c world stands =
    hold_met world c.args.user c.args.page c.args.permission c.held-held.result
    (c.held-held.ensures world stands.pages stands.lists) c.holds.result c.holds.ensures
    c.if-holds.true

pub returns-else-holds : goal.returns-else-holds
returns-else-holds c world stands =
    hold_unmet world c.args.user c.args.page c.args.permission c.held-held.result
    (c.held-held.ensures world stands.pages stands.lists) c.holds.result c.holds.ensures
    c.number.result c.number.ensures c.if-holds.false
