-- Who is a member of a group that is asked moderates the page.
use Rattle.std.proofs.Common.{List, Option, sym, ap, ◌∙◌}
use Rattle.std.specs.List.{list_any}
use Rattle.site_types.specs.declared.moderation.Moderation.{Moderation}
use Rattle.site_types.specs.declared.world_rows.Member.{Member}
use Rattle.site_model.specs.Rights.{has_group, groups_of, rights_of}
use Rattle.site_model.specs.Views.{stage_of, moderates}
use Rattle.site_part.proofs.AskingLemmas.{moderates_if}
use Rattle.site_part.proofs.asking.moderates.Goals as goal

pub returns-in-Some : goal.returns-in-Some
returns-in-Some c part lists flows =
    moderates_if part c.args.user c.in-Some.moderation c.groups_asked.result.now c.is_in_any.result
    (c.groups_asked.ensures part flows)
    (c.is_in_any.ensures
    ∙ ap (λ (members : List Member). list_any (λ own. has_group c.groups_asked.result.now own)
    (groups_of members c.args.user)) lists.members)
    ∙ ap (λ (kept : Option Moderation). moderates (rights_of part c.args.user) (stage_of part kept))
    (sym c.in-Some.is)
