-- What is sound of a tree part, its desks aside.
use Rattle.std.proofs.Common.{List}
use Rattle.site_ids.specs.Moment.{IsMoment}
use Rattle.site_model.specs.World.{DeskPair, TreePart}
use Rattle.site_model.specs.Sound.{IsTree, AreRevisions, AreBodies, ArePeople, AreTasks, AreGrants, AreDesks, IsSoundPart}

-- A sound part, its desks aside.
pub record AreGroups (part : TreePart) : Type 0 where
  pub time : IsMoment part.time
  pub pages : IsTree part.tree part.next_page
  pub revisions : AreRevisions part.tree part.revisions part.next_revision part.next_user
  pub bodies :
      AreBodies part.tree part.revisions part.next_user part.next_workflow part.workflows
  pub people : ArePeople part.users part.members part.next_user part.next_group
  pub tasks : AreTasks part.tasks part.workflows part.next_group part.next_task part.next_workflow
  pub grants : AreGrants part.grants part.tree part.next_group

-- it is of a sound part
pub groups_of : (part : TreePart) → IsSoundPart part → AreGroups part
groups_of part sound = record {
  time = sound.time;
  pages = sound.pages;
  revisions = sound.revisions;
  bodies = sound.bodies;
  people = sound.people;
  tasks = sound.tasks;
  grants = sound.grants;
}

-- with its desks it is one
pub with_desks : (part : TreePart) (pairs : List DeskPair) → AreGroups part →
    AreDesks (record part { desk_pairs = pairs }) →
    IsSoundPart (record part { desk_pairs = pairs })
with_desks part pairs groups desks = record {
  time = groups.time;
  pages = groups.pages;
  revisions = groups.revisions;
  bodies = groups.bodies;
  people = groups.people;
  tasks = groups.tasks;
  grants = groups.grants;
  desks = desks;
}
