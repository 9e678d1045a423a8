-- What a plan needs so that the links of pages can be put in with its change.
use Rattle.std.specs.Prelude.{◌≤◌}
use Rattle.site_part.specs.declared.part.TreePart.{TreePart}
use Rattle.site_part.specs.declared.plan.Plan.{Plan}
use Rattle.link_plans.specs.Told.{AreLinksAfter, total_links}

-- The links of a plan can be put in: there is room, and with them each page links to what it links to
-- after the change.
pub record CanPutLinks (kept : TreePart) (plan : Plan) : Type 0 where
  pub room : total_links plan.links ≤ kept.links.spare
  pub after : AreLinksAfter kept.rows.pages kept.shelf.revisions plan.change plan.links
