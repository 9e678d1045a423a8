-- Whether any page is live counts only for one who does not hold publish.
use Rattle.site_types.specs.declared.permission.Permission.TheVariants.{Publish}
use Rattle.site_model.specs.Views.{any_live}
use Rattle.site_part.proofs.NeedLemmas.{where_met, where_told}
use Rattle.site_part.proofs.need.live_need.Goals as goal

pub returns-in-None : goal.returns-in-None
returns-in-None c world stands =
    where_met world c.args.user c.args.at Publish (any_live world.tree c.args.page)
    (c.in-None.ensures world stands)

pub returns-in-Some : goal.returns-in-Some
returns-in-Some c world stands =
    where_told world c.args.user c.args.at Publish (any_live world.tree c.args.page)
    c.where_live.result c.any_live.result c.in-Some.number (c.any_live.ensures world.tree stands.pages)
    c.where_live.ensures (c.in-Some.ensures world stands)
