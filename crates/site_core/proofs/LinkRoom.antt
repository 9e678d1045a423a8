-- A plan with the links that pages get by it, and with room for them.
use Rattle.std.proofs.Common.{◌≡◌, ◌≤◌, ℕ, List, [], Option, sym, ap, subst, arith}
use Rattle.page_tree.specs.Rows.{rows_of}
use Rattle.site_ids.specs.Moment.{IsMoment}
use Rattle.site_types.specs.Content.{ContentValue}
use Rattle.site_types.specs.declared.command.Command.{Command}
use Rattle.site_types.specs.declared.revision.Revision.{Revision}
use Rattle.site_model.specs.World as worlds
use Rattle.site_model.specs.Desks.{desk_page}
use Rattle.site_model.specs.Laws.{FitsCommand, FitsDesk}
use Rattle.site_model.proofs.ReachedSound.{step_by_keeps_reached}
use Rattle.page_store.specs.Pages.{Page, ArePages}
use Rattle.flat_model.specs.Fits.{RevisionsFit}
use Rattle.flat_model.specs.Flat.{lists_of}
use Rattle.flat_model.specs.Lists.{PartLists}
use Rattle.flat_model.specs.Single.{tree_change}
use Rattle.flat_model.specs.declared.change.TreeChange.TheVariants.{Nothing}
use Rattle.flat_model.proofs.ListLemmas.{quiet_revisions}
use Rattle.site_part.specs.Plans.{HasPlan}
use Rattle.site_part.specs.Standing.{StandsFor, IsReady}
use Rattle.site_part.specs.declared.part.TreePart.{TreePart}
use Rattle.site_part.specs.declared.plan.Plan.{Plan}
use Rattle.link_plans.specs.PageLinks.{page_links, AreLinked}
use Rattle.link_plans.specs.Told.{TellsPages, AreLinksAfter, total_links}
use Rattle.part_commits.specs.InStep.{HasIndexRoom, CanStayInStep}
use Rattle.part_commits.specs.Links.{CanPutLinks}
use Rattle.part_commits.proofs.ToldLemmas.{steps_tell}
use Rattle.site_core.specs.Linking.{HasLinkRoom}

-- the index is in step with the world
pub world_linked : (kept : TreePart) (part : worlds.TreePart) → StandsFor kept part →
    AreLinked kept.links.pairs (rows_of part.tree) part.revisions
world_linked kept part stands linked page =
    rw (← stands.pages, ← stands.revisions) (stands.linked linked page)

-- a plan that changes nothing and gives no page other links can be carried out
pub quiet_links : (kept : TreePart) (plan : Plan) → plan.links ≡ [] →
    plan.change ≡ tree_change Nothing kept.time kept.next_page kept.next_revision →
    CanPutLinks kept plan
quiet_links kept plan none is = record {
  room = rw none (omega arith);
  after = λ page linked.
      rw (none, is)
      (ap (λ (list : List Revision). page_links kept.rows.pages list page linked)
      (sym (quiet_revisions kept.shelf.revisions)));
}

module _ (part : worlds.TreePart) (desk : Option ContentValue) (now caller : ℕ) (command : Command)
    (plan : Plan) where
  -- its revisions come after those that are kept
  pub plan_fits : (kept : TreePart) → HasPlan kept part desk now caller command plan →
      RevisionsFit plan.change.revisions kept.shelf.revisions
  plan_fits kept has =
      subst (RevisionsFit plan.change.revisions) (sym has.can.ready.stands.revisions)
      has.can.right.fits.change.revisions

  -- its change tells all of the pages after it
  pub plan_tells : (first kept : TreePart) → IsReady first part → IsMoment now →
      FitsCommand command → FitsDesk part caller (desk_page command) desk →
      ArePages first.rows.pages → HasPlan kept part desk now caller command plan →
      TellsPages kept.rows.pages kept.shelf.revisions plan.change
  plan_tells first kept ready moment fits own pages has =
      subst (λ (rows : List Page). TellsPages rows kept.shelf.revisions plan.change)
      (sym has.can.ready.stands.pages)
      (subst (λ (list : List Revision). TellsPages (rows_of part.tree) list plan.change)
      (sym has.can.ready.stands.revisions)
      (steps_tell part has.after plan.change ready.reached.sound
      (step_by_keeps_reached part has.after has.effect desk now caller command ready.reached
      moment fits own has.can.right.step).sound
      has.can.right.fits.change
      (subst (λ rows. ArePages rows) ready.stands.pages pages).own_ids
      (ap (λ (lists : PartLists). lists.pages) has.can.right.leads)
      (ap (λ (lists : PartLists). lists.revisions) has.can.right.leads)))

module _ (plan : Plan) (before after : TreePart) (room : HasLinkRoom before after) where
  -- what a plan's change does not touch stays in step with other room for links
  pub stays_with_links : (part : worlds.TreePart) → CanStayInStep before (lists_of part) plan.change →
      CanStayInStep after (lists_of part) plan.change
  stays_with_links part can =
      let with_room : HasIndexRoom (record before { links = after.links }) plan.change = record {
        expiries = can.room.expiries;
        go_lives = can.room.go_lives;
        aliases = can.room.aliases;
      } in
      record {
        room = subst (λ kept. HasIndexRoom kept plan.change) (sym room.is) with_room;
        stays = can.stays;
      }

  -- links that are those after the change can be put in
  pub links_fit : (links : List (ℕ × List ℕ)) → total_links links ≤ after.links.spare →
      AreLinksAfter before.rows.pages before.shelf.revisions plan.change links →
      CanPutLinks after (record plan { links = links })
  links_fit links enough told = record {
    room = enough;
    after = subst (λ (kept : TreePart).
        AreLinksAfter kept.rows.pages kept.shelf.revisions plan.change links) (sym room.is) told;
  }
