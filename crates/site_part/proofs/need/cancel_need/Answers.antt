-- Who has submitted the moderation needs nothing more.
use Rattle.site_part.proofs.NeedLemmas.{cancel_met, cancel_else}
use Rattle.site_part.proofs.need.cancel_need.Goals as goal

pub returns-then-has_submitted : goal.returns-then-has_submitted
returns-then-has_submitted c world stands =
    cancel_met world c.args.user c.args.page c.body_at-body.result
    (c.body_at-body.ensures world.tree stands.pages) c.has_submitted.result
    c.has_submitted.ensures c.if-has_submitted.true

pub returns : goal.returns
returns c world stands =
    cancel_else world c.args.user c.args.page c.body_at-body.result
    (c.body_at-body.ensures world.tree stands.pages) c.has_submitted.result c.hold_need.result
    c.has_submitted.ensures c.if-has_submitted.false (c.hold_need.ensures world stands)
