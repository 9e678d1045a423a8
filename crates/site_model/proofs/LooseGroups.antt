-- What is sound of a tree part, its desks aside, but for how much its contents take together: in
-- the midst of a deletion that is more than before it and more than after it.
use Rattle.std.proofs.Common.{◌≡◌, ◌<◌, ◌≤◌, ℕ, true, List}
use Rattle.std.specs.List.{AllByRecursion}
use Rattle.page_tree.specs.Tree.{Forest, has_page}
use Rattle.site_ids.specs.declared.ids.TheConstants.{LAST_REVISION_ID}
use Rattle.site_ids.specs.Moment.{IsMoment}
use Rattle.site_types.specs.Content.{FitsLimits}
use Rattle.site_types.specs.declared.body.Body.{Body}
use Rattle.site_types.specs.declared.revision.Revision.{Revision}
use Rattle.site_model.specs.World.{TreePart}
use Rattle.site_model.specs.Limits.{MAX_CONTENTS, contents_length}
use Rattle.site_model.specs.Sound.{IsTree, AreBodies, ArePeople, AreTasks, AreGrants, HasMoments, IdsRise, IsNext}
use Rattle.site_model.proofs.Groups.{AreGroups}

-- The revisions, beside these pages and users, whatever their contents take together.
pub record LooseRevisions (pages : Forest Body) (revisions : List Revision) (next users : ℕ) :
    Type 0 where
  pub next_revision : IsNext LAST_REVISION_ID next
  pub revision_ids : AllByRecursion (λ (revision : Revision). revision.id < next) revisions
  pub revisions_rise : IdsRise 0 revisions
  pub revisions_have_pages :
      AllByRecursion (λ (revision : Revision). has_page revision.page pages ≡ true) revisions
  pub revisions_below_root :
      AllByRecursion (λ (revision : Revision). revision.page ≡ 1 → ⊥) revisions
  pub authors : AllByRecursion (λ (revision : Revision). revision.by < users) revisions
  pub moments : AllByRecursion HasMoments revisions
  pub contents : AllByRecursion (λ (revision : Revision). FitsLimits revision.content) revisions

-- A part that is sound, its desks aside, whatever its contents take together.
pub record AreLoose (part : TreePart) : Type 0 where
  pub time : IsMoment part.time
  pub pages : IsTree part.tree part.next_page
  pub revisions : LooseRevisions part.tree part.revisions part.next_revision part.next_user
  pub bodies :
      AreBodies part.tree part.revisions part.next_user part.next_workflow part.workflows
  pub people : ArePeople part.users part.members part.next_user part.next_group
  pub tasks : AreTasks part.tasks part.workflows part.next_group part.next_task part.next_workflow
  pub grants : AreGrants part.grants part.tree part.next_group

-- a sound part is one
pub loosened : (part : TreePart) → AreGroups part → AreLoose part
loosened part sound =
    let old = sound.revisions in
    record {
      time = sound.time;
      pages = sound.pages;
      revisions = record {
        next_revision = old.next_revision;
        revision_ids = old.revision_ids;
        revisions_rise = old.revisions_rise;
        revisions_have_pages = old.revisions_have_pages;
        revisions_below_root = old.revisions_below_root;
        authors = old.authors;
        moments = old.moments;
        contents = old.contents;
      };
      bodies = sound.bodies;
      people = sound.people;
      tasks = sound.tasks;
      grants = sound.grants;
    }

-- where its contents have room, it is sound
pub tightened : (part : TreePart) → AreLoose part →
    contents_length part.revisions ≤ MAX_CONTENTS → AreGroups part
tightened part loose fits =
    let old = loose.revisions in
    record {
      time = loose.time;
      pages = loose.pages;
      revisions = record {
        next_revision = old.next_revision;
        revision_ids = old.revision_ids;
        revisions_rise = old.revisions_rise;
        revisions_have_pages = old.revisions_have_pages;
        revisions_below_root = old.revisions_below_root;
        authors = old.authors;
        moments = old.moments;
        contents = old.contents;
        contents_fit = fits;
      };
      bodies = loose.bodies;
      people = loose.people;
      tasks = loose.tasks;
      grants = loose.grants;
    }
