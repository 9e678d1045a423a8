-- Who has locked the page needs nothing more.
use Rattle.site_part.proofs.NeedLemmas.{unlock_met, unlock_else}
use Rattle.site_part.proofs.need.unlock_need.Goals as goal

pub returns-then-has_locked : goal.returns-then-has_locked
returns-then-has_locked c world stands =
    unlock_met world c.args.user c.args.page c.body_at-body.result
    (c.body_at-body.ensures world.tree stands.pages) c.has_locked.result c.has_locked.ensures
    c.if-has_locked.true

pub returns : goal.returns
returns c world stands =
    unlock_else world c.args.user c.args.page c.body_at-body.result
    (c.body_at-body.ensures world.tree stands.pages) c.has_locked.result c.hold_need.result
    c.has_locked.ensures c.if-has_locked.false (c.hold_need.ensures world stands)
