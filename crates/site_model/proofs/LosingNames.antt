-- Which desks the commands on users, groups, grants, tasks and workflows may end.
use Rattle.std.proofs.Common.{ℕ, Bool, true, false, ◌&&◌, nat_eq, List, [], ◌∷◌, Option, refl, sym, ap, ◌∙◌, arith}
use Rattle.std.specs.List.{list_any}
use Rattle.site_types.specs.Content.{ContentValue}
use Rattle.site_types.specs.declared.command.Command.TheVariants.{DefineTask, DefineWorkflow, DefineUser, DefineGroup, Member, Grant}
use Rattle.site_types.specs.declared.permission.Permission.{Permission}
use Rattle.site_types.specs.declared.world_rows.UserRow.{UserRow}
use Rattle.site_model.specs.World.{TreePart}
use Rattle.site_model.specs.Users.{membership, grant_of, is_membership, with_user, with_member, with_grant}
use Rattle.site_model.specs.Desks.{desk_page}
use Rattle.site_model.specs.Step as steps
use Rattle.site_model.specs.Sound.{IsSoundPart}
use Rattle.site_model.specs.Losing.{suspects_of, shuts}
use Rattle.site_model.proofs.LosingTrees.{way_to, ids_on, walked_ids}
use Rattle.site_model.proofs.LosingRights.{more_stays}
use Rattle.site_model.proofs.LosingLemmas.{EndsFew}
use Rattle.site_model.proofs.LosingBodies.{same_stays}
use Rattle.site_model.proofs.LosingPeople.{user_front, groups_kept, member_more, grant_more, grant_apart}
use Rattle.site_model.proofs.LosingStages.{task_added, view_by_task, workflow_added, view_by_workflow}

-- the definition of a task ends no desk
pub task_few : (part : TreePart) (desk : Option ContentValue) (now caller : ℕ) (groups : List ℕ) →
    IsSoundPart part →
    EndsFew part caller (DefineTask groups)
    (steps.effect part desk now caller (DefineTask groups))
unfolding steps.effect desk_page suspects_of shuts
task_few part desk now caller groups sound = record {
  shut = refl;
  pairs = refl;
  opened = tt;
  others = λ pair user stay free.
      same_stays part (task_added part groups) pair refl
      (view_by_task part groups (way_to pair.page part.tree) sound.tasks) ∙ stay;
}

-- nor does that of a workflow
pub workflow_few : (part : TreePart) (desk : Option ContentValue) (now caller : ℕ)
    (tasks : List ℕ) → IsSoundPart part →
    EndsFew part caller (DefineWorkflow tasks)
    (steps.effect part desk now caller (DefineWorkflow tasks))
unfolding steps.effect desk_page suspects_of shuts
workflow_few part desk now caller tasks sound = record {
  shut = refl;
  pairs = refl;
  opened = tt;
  others = λ pair user stay free.
      same_stays part (workflow_added part tasks) pair refl
      (view_by_workflow part tasks pair.page sound.bodies sound.tasks) ∙ stay;
}

-- nor does that of a user
pub user_few : (part : TreePart) (desk : Option ContentValue) (now caller : ℕ) (superuser : Bool)
    (digest : List ℕ) → IsSoundPart part →
    EndsFew part caller (DefineUser superuser digest)
    (steps.effect part desk now caller (DefineUser superuser digest))
unfolding steps.effect desk_page suspects_of shuts
user_few part desk now caller superuser digest sound =
    let new : UserRow = record { superuser = superuser; digest = digest } in
    record {
      shut = refl;
      pairs = refl;
      opened = tt;
      others = λ pair user stay free.
          same_stays part (with_user part now superuser digest) pair
          (rw (user_front part.users (new ∷ []) pair.user
          (omega (arith, user, sound.people.numbered))) refl) refl ∙ stay;
    }

-- nor does that of a group
pub group_few : (part : TreePart) (desk : Option ContentValue) (now caller : ℕ) →
    EndsFew part caller DefineGroup (steps.effect part desk now caller DefineGroup)
unfolding steps.effect desk_page suspects_of shuts
group_few part desk now caller = record {
  shut = refl;
  pairs = refl;
  opened = tt;
  others = λ pair user stay free. stay;
}

-- a membership that begins ends no desk, and one that ends may end those of its user alone
pub member_few : (part : TreePart) (desk : Option ContentValue) (now caller user group : ℕ)
    (on : Bool) →
    EndsFew part caller (Member user group on)
    (steps.effect part desk now caller (Member user group on))
unfolding steps.effect desk_page suspects_of shuts
member_few part desk now caller user group true = record {
  shut = refl;
  pairs = refl;
  opened = tt;
  others = λ pair known stay free.
      more_stays part (with_member part now user group true) pair refl
      (member_more part (ids_on (way_to pair.page part.tree)) (membership user group) pair.user)
      stay;
}
member_few part desk now caller user group false = record {
  shut = refl;
  pairs = refl;
  opened = tt;
  others = λ pair known stay other.
      same_stays part (with_member part now user group false) pair
      (rw (groups_kept part.members user group pair.user other) refl) refl ∙ stay;
}

-- a grant that is given ends no desk, and one that is withdrawn may end those of its group's
-- members on its page and below it alone
pub grant_few : (part : TreePart) (desk : Option ContentValue) (now caller group page : ℕ)
    (permission : Permission) (on : Bool) →
    EndsFew part caller (Grant group page permission on)
    (steps.effect part desk now caller (Grant group page permission on))
unfolding steps.effect desk_page suspects_of shuts
grant_few part desk now caller group page permission true = record {
  shut = refl;
  pairs = refl;
  opened = tt;
  others = λ pair known stay free.
      more_stays part (with_grant part now group page permission true) pair refl
      (grant_more part (ids_on (way_to pair.page part.tree)) (grant_of group page permission)
      pair.user) stay;
}
grant_few part desk now caller group page permission false = record {
  shut = refl;
  pairs = refl;
  opened = tt;
  others = λ pair known stay free.
      more_stays part (with_grant part now group page permission false) pair refl
      (grant_apart part (ids_on (way_to pair.page part.tree)) group page permission pair.user
      (ap (λ (ids : List ℕ). list_any (λ (one : ℕ). nat_eq one page) ids
      && list_any (is_membership pair.user group) part.members)
      (sym (walked_ids pair.page part.tree)) ∙ free)) stay;
}
