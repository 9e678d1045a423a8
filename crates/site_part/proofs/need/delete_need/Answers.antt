-- A need to take the page away, and else one to take kids along.
use Rattle.std.proofs.Common.{[], ◌∷◌}
use Rattle.site_model.specs.Needs as needs
use Rattle.site_part.proofs.NeedLemmas.{some_of, rest_of, only_is}
use Rattle.site_part.proofs.need.delete_need.Goals as goal

pub returns-in-Some : goal.returns-in-Some
returns-in-Some c world stands =
    some_of (needs.take_need world c.args.user c.args.page
    ∷ needs.live_need world c.args.user c.args.page c.args.page ∷ []) _ c.in-Some.number
    (c.in-Some.ensures world stands)

pub returns-in-None : goal.returns-in-None
returns-in-None c world stands =
    rest_of (needs.take_need world c.args.user c.args.page
    ∷ needs.live_need world c.args.user c.args.page c.args.page ∷ []) _ c.bulk_need.result
    (c.in-None.ensures world stands)
    (only_is _ c.bulk_need.result (c.bulk_need.ensures world stands))
