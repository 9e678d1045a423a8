-- A plan beside other room for what is found fast, and that what its change does not touch stays in
-- step.
use Rattle.std.proofs.Common.{◌≡◌, ℕ, List, Option, sym, ap, subst, ◌∙◌}
use Rattle.site_ids.specs.Moment.{IsMoment}
use Rattle.site_types.specs.Content.{ContentValue}
use Rattle.site_types.specs.declared.command.Command.{Command}
use Rattle.site_model.specs.World as worlds
use Rattle.site_model.specs.Desks.{desk_page}
use Rattle.site_model.specs.Laws.{FitsCommand, FitsDesk}
use Rattle.site_model.proofs.ReachedSound.{step_by_keeps_reached}
use Rattle.page_store.specs.Pages.{ArePages}
use Rattle.flat_model.specs.Flat.{lists_of}
use Rattle.flat_model.specs.Lists.{PartLists}
use Rattle.site_part.specs.Plans.{HasPlan, HasRoom}
use Rattle.time_table.specs.declared.times.Times.{Times}
use Rattle.link_index.specs.Pairs.{PairList}
use Rattle.site_part.specs.Standing.{SameIndexes, IsSame, IsReady}
use Rattle.site_part.specs.declared.part.TreePart.{TreePart}
use Rattle.site_part.specs.declared.plan.Plan.{Plan}
use Rattle.site_part.proofs.StandingLemmas.{same_ready, same_both}
use Rattle.part_commits.specs.InStep.{HasOtherRoom, HasIndexRoom, CanStayInStep}
use Rattle.part_commits.proofs.InStepLemmas.{stays_in_step}
use Rattle.site_core.specs.Linking.{HasLinkRoom}

-- Two parts differ by what is found fast alone, and in it by room alone.
pub record AreAlike (before after : TreePart) : Type 0 where
  pub is : after
      ≡ record before { times = after.times; aliases = after.aliases; links = after.links }
  pub indexes : SameIndexes before after

-- where they do all is the same
pub alike_same : (before after : TreePart) → AreAlike before after → IsSame before after
alike_same before after alike = record {
  pages = ap (λ (kept : TreePart). kept.rows.pages) alike.is;
  revisions = ap (λ (kept : TreePart). kept.shelf.revisions) alike.is;
  lists = record {
    users = ap (λ (kept : TreePart). kept.grants.users) alike.is;
    groups = ap (λ (kept : TreePart). kept.grants.groups) alike.is;
    members = ap (λ (kept : TreePart). kept.grants.members) alike.is;
    grants = ap (λ (kept : TreePart). kept.grants.grants) alike.is;
  };
  flows = record {
    tasks = ap (λ (kept : TreePart). kept.flows.tasks) alike.is;
    workflows = ap (λ (kept : TreePart). kept.flows.workflows) alike.is;
  };
  desks = ap (λ (kept : TreePart). kept.desk_pairs.pairs) alike.is;
  time = ap (λ (kept : TreePart). kept.time) alike.is;
  next_page = ap (λ (kept : TreePart). kept.next_page) alike.is;
  next_revision = ap (λ (kept : TreePart). kept.next_revision) alike.is;
  indexes = alike.indexes;
}

-- they do with other room in the tables and among the aliases
pub room_alike : (before after : TreePart) → HasOtherRoom before after → AreAlike before after
room_alike before after room =
    let links = ap (λ (kept : TreePart). kept.links) room.is in
    record {
      is = room.is
          ∙ ap (λ (links : PairList).
          record before { times = after.times; aliases = after.aliases; links = links })
          (sym links);
      indexes = record {
        expiries = room.expiries;
        go_lives = room.go_lives;
        aliases = room.aliases;
        links = ap (λ (links : PairList). links.pairs) links;
      };
    }

-- and with other room for links
pub links_alike : (before after : TreePart) → HasLinkRoom before after → AreAlike before after
links_alike before after room =
    let times = ap (λ (kept : TreePart). kept.times) room.is in
    let aliases = ap (λ (kept : TreePart). kept.aliases) room.is in
    record {
      is = room.is
          ∙ (ap (λ (times : Times). record before { times = times; links = after.links }) (sym times)
          ∙ ap (λ (aliases : PairList).
          record before { times = after.times; aliases = aliases; links = after.links })
          (sym aliases));
      indexes = record {
        expiries = ap (λ (times : Times). times.expiries.entries) times;
        go_lives = ap (λ (times : Times). times.go_lives.entries) times;
        aliases = ap (λ (aliases : PairList). aliases.pairs) aliases;
        links = room.links;
      };
    }

-- all stays the same where first a plan is found, then room is made, and then links are found
pub same_throughout : (first found roomy linked : TreePart) → IsSame first found →
    HasOtherRoom found roomy → HasLinkRoom roomy linked → IsSame first linked
same_throughout first found roomy linked same room links =
    same_both first found linked same
    (same_both found roomy linked (alike_same found roomy (room_alike found roomy room))
    (alike_same roomy linked (links_alike roomy linked links)))

module _ (part : worlds.TreePart) (desk : Option ContentValue) (now caller : ℕ) (command : Command)
    (plan : Plan) where
  -- a plan is one beside what differs by room alone, and with other links
  pub plan_alike : (before after : TreePart) (links : List (ℕ × List ℕ)) → AreAlike before after →
      HasPlan before part desk now caller command plan →
      HasPlan after part desk now caller command (record plan { links = links })
  plan_alike before after links alike has =
      let right = has.can.right in
      let taken = has.can.room in
      let with_room :
      HasRoom (record before { times = after.times; aliases = after.aliases; links = after.links })
      (record plan { links = links }) =
      record {
        rows = taken.rows;
        revisions = taken.revisions;
        people = taken.people;
        flows = taken.flows;
        desks = taken.desks;
      } in
      record {
        after = has.after;
        effect = has.effect;
        can = record {
          ready = same_ready before after part (alike_same before after alike) has.can.ready;
          right = record {
            step = right.step;
            reply = right.reply;
            opened = right.opened;
            shut = right.shut;
            no_text = right.no_text;
            fits = record { change = right.fits.change; opened = right.fits.opened };
            leads = right.leads;
          };
          room = subst (λ kept. HasRoom kept (record plan { links = links })) (sym alike.is) with_room;
        };
      }

  -- what its change does not touch stays in step
  pub plan_stays : (first before after : TreePart) → IsReady first part → IsMoment now →
      FitsCommand command → FitsDesk part caller (desk_page command) desk →
      ArePages first.rows.pages → HasPlan before part desk now caller command plan →
      HasIndexRoom after plan.change → CanStayInStep after (lists_of part) plan.change
  plan_stays first before after ready moment fits own pages has room = record {
    room = room;
    stays = stays_in_step part has.after plan.change ready.reached.sound
        (step_by_keeps_reached part has.after has.effect desk now caller command ready.reached
        moment fits own has.can.right.step).sound
        has.can.right.fits.change
        (subst (λ rows. ArePages rows) ready.stands.pages pages).own_ids
        (ap (λ (lists : PartLists). lists.pages) has.can.right.leads)
        (ap (λ (lists : PartLists). lists.revisions) has.can.right.leads);
  }
