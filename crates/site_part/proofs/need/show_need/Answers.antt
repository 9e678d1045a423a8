-- A page that is live asks for the permission.
use Rattle.site_types.specs.declared.permission.Permission.TheVariants.{Publish}
use Rattle.site_model.specs.Views.{is_live_page}
use Rattle.site_part.proofs.NeedLemmas.{where_true, where_false}
use Rattle.site_part.proofs.need.show_need.Goals as goal

pub returns-then-is_live_page : goal.returns-then-is_live_page
returns-then-is_live_page c world stands =
    where_true world c.args.user c.args.at Publish (is_live_page world.tree c.args.page)
    c.hold_need.result c.is_live_page.result (c.is_live_page.ensures world.tree stands.pages)
    c.if-is_live_page.true (c.hold_need.ensures world stands)

pub returns-else-is_live_page : goal.returns-else-is_live_page
returns-else-is_live_page c world stands =
    where_false world c.args.user c.args.at Publish (is_live_page world.tree c.args.page)
    c.is_live_page.result (c.is_live_page.ensures world.tree stands.pages) c.if-is_live_page.false
