-- Kids ask for the permission.
use Rattle.site_types.specs.declared.permission.Permission.TheVariants.{BulkDelete}
use Rattle.site_model.specs.Views.{has_kids}
use Rattle.site_part.proofs.NeedLemmas.{where_true, where_false}
use Rattle.site_part.proofs.need.bulk_need.Goals as goal

pub returns-then-has_kids : goal.returns-then-has_kids
returns-then-has_kids c world stands =
    where_true world c.args.user c.args.page BulkDelete (has_kids world.tree c.args.page)
    c.hold_need.result c.has_kids.result (c.has_kids.ensures world.tree stands.pages)
    c.if-has_kids.true (c.hold_need.ensures world stands)

pub returns-else-has_kids : goal.returns-else-has_kids
returns-else-has_kids c world stands =
    where_false world c.args.user c.args.page BulkDelete (has_kids world.tree c.args.page)
    c.has_kids.result (c.has_kids.ensures world.tree stands.pages) c.if-has_kids.false
