-- The plan of a creation that no rule refuses.
use Rattle.std.proofs.Common.{◌≡◌, ◌<◌, ◌≤◌, ◌+◌, ℕ, max, List, [], ◌∷◌, ◌++◌, Option, None, refl, sym, ap, subst, ◌∙◌}
use Rattle.std.specs.List.{AllByRecursion}
use Rattle.site_ids.specs.Moment.{IsMoment}
use Rattle.site_types.specs.Content.{ContentValue}
use Rattle.site_types.specs.declared.command.Command.TheVariants.{Create}
use Rattle.site_types.specs.declared.revision.Revision.{Revision}
use Rattle.page_store.specs.Pages.{ArePages}
use Rattle.site_model.specs.World as worlds
use Rattle.site_model.specs.Create.{created, fresh_body, plain_revision, page_reply}
use Rattle.site_model.specs.Rules.{first_of}
use Rattle.flat_model.proofs.ListLemmas.{none_out}
use Rattle.site_part.specs.Plans.{HasPlan}
use Rattle.site_part.specs.Standing.{IsSame}
use Rattle.site_part.specs.declared.part.TreePart.{TreePart}
use Rattle.site_part.specs.declared.plan.Plan.{Plan}
use Rattle.new_pages.specs.declared.creation.NewPage.{NewPage}
use Rattle.new_pages.specs.Making.{page_rules, IsNewPage, creation_plan}
use Rattle.new_pages.specs.Plans.{IsAsked}
use Rattle.new_pages.proofs.CommandLemmas.{create_names, create_own, create_done, create_desk, create_quiet}
use Rattle.new_pages.proofs.NewcomerLemmas.{Comes, newcomer_planned}
use Rattle.new_pages.proofs.QuietPlans.{IsQuiet}

-- a revision with the next id may come
pub one_comes : (part : worlds.TreePart) (revision : Revision) → revision.id ≡ part.next_revision →
    AllByRecursion (λ (older : Revision). older.id < part.next_revision) part.revisions →
    Comes part (revision ∷ []) (part.revisions ++ revision ∷ [])
one_comes part revision id_is below = record {
  fit = (
    subst (λ n. AllByRecursion (λ (older : Revision). older.id < n) part.revisions) (sym id_is)
        below,
    tt,
  );
  all_are = ap (λ (ones : List Revision). ones ++ revision ∷ [])
      (none_out (λ (one : Revision). one.page) part.revisions);
}

module _ (kept : TreePart) (part : worlds.TreePart) (desk : Option ContentValue)
    (now caller parent : ℕ) (slug : List ℕ) (content : ContentValue)
    (asked : IsAsked kept part caller (Create parent slug content)) (moment : IsMoment now)
    (are : ArePages kept.rows.pages) (made : NewPage)
    (clear : first_of (page_rules part now caller parent slug content) ≡ None)
    (new : IsNewPage part parent slug made) where
  -- the world after the creation
  abbrev after : worlds.TreePart
  after = created part now caller parent slug content

  -- the command, with what it does
  quiet : IsQuiet part desk now caller (Create parent slug content) after
      (page_reply part.next_page after.tree)
  quiet =
      let ends = create_quiet parent slug content in record {
        clear = create_own part desk now caller parent slug content ∙ clear;
        own = create_desk parent slug content;
        done = create_done part desk now caller parent slug content;
        desks = refl;
        suspects = ends.0;
        shut = ends.1;
      }

  -- its first revision
  abbrev first : ℕ → Revision
  first time = plain_revision made.revision made.page caller time content

  -- its plan can be committed where room was made
  pub creation_planned : (room : TreePart) (time : ℕ) (plan : Plan) → IsSame kept room →
      1 ≤ room.rows.spare → 1 ≤ room.shelf.spare → time ≡ max kept.time now →
      plan ≡ creation_plan made slug content caller time →
      HasPlan room part desk now caller (Create parent slug content) plan
  creation_planned room time plan same rows shelf time_is is =
      let time_same : time ≡ worlds.time_at part now =
      time_is ∙ ap (λ t. max t now) asked.ready.stands.time in
      let revision : Revision = plain_revision part.next_revision part.next_page caller
      (worlds.time_at part now) content in
      newcomer_planned kept part desk now caller parent slug (fresh_body caller part.next_revision)
      (revision ∷ []) after.revisions (part.next_revision + 1) (Create parent slug content) asked
      moment are made.place new.place (create_names part caller parent slug content asked.front)
      (one_comes part revision refl asked.ready.reached.sound.revisions.revision_ids)
      (refl, refl) quiet room
      (record { id = made.page; place = made.place; body = fresh_body caller made.revision })
      (first time ∷ []) time (made.revision + 1) plan same rows shelf
      (ap (λ n. record { id = n; place = made.place; body = fresh_body caller made.revision })
      new.page
      ∙ ap (λ n. record { id = part.next_page; place = made.place; body = fresh_body caller n })
      new.revision)
      (ap (λ n. plain_revision n made.page caller time content ∷ []) new.revision
      ∙ (ap (λ n. plain_revision part.next_revision n caller time content ∷ []) new.page
      ∙ ap (λ t. plain_revision part.next_revision part.next_page caller t content ∷ []) time_same))
      time_same (ap (λ n. n + 1) new.revision) is
