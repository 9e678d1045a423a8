-- What is planned of a command on users and groups that no rule refuses.
use Rattle.std.specs.Prelude.{◌≡◌, ℕ, ◌≤◌, Bool, true, false, not, ◌&&◌, max, List, [], filter, Result, Ok, Err}
use Rattle.site_types.specs.declared.reply.Reply.{Reply}
use Rattle.site_types.specs.declared.permission.Permission.{Permission}
use Rattle.site_model.specs.World as worlds
use Rattle.site_model.specs.Desks.{stays}
use Rattle.site_model.specs.Losing.{DesksOf, DesksBelow, is_suspect}
use Rattle.site_model.specs.Users.{with_member, with_grant}
use Rattle.flat_model.specs.Single.{people_change}
use Rattle.flat_model.specs.declared.change.PeopleChange.{PeopleChange}
use Rattle.site_part.specs.declared.fault.Fault.{Fault}
use Rattle.site_part.specs.declared.fault.Fault.TheVariants.{Memory}
use Rattle.site_part.specs.declared.part.TreePart.{TreePart}
use Rattle.site_part.specs.declared.plan.Plan.{Plan}
use Rattle.moderating.specs.Plans.{ending_plan}

-- A plan with this reply, which opens no desk, ends those on these pages, and changes users,
-- groups, memberships and grants alone: room was made for one user, membership or grant.
pub record IsReadyPlan (before after : TreePart) (now : ℕ) (reply : Reply) (people : PeopleChange)
    (shut : List ℕ) (plan : Plan) : Type 0 where
  pub plan_is : plan
      ≡ ending_plan reply shut
      (people_change people (max before.time now) before.next_page before.next_revision)
  pub room : 1 ≤ after.grants.spare

-- such a plan, unless memory ran out
abbrev pub ReadiesPlan : TreePart → TreePart → ℕ → Reply → PeopleChange → List ℕ →
    Result Plan Fault → Type 0
ReadiesPlan before after now reply people shut (Ok plan) =
    IsReadyPlan before after now reply people shut plan
ReadiesPlan before after now reply people shut (Err fault) = fault ≡ Memory

-- the open desks that end as a membership begins, which are none, or ends
abbrev pub member_lost : worlds.TreePart → ℕ → ℕ → ℕ → Bool → List worlds.DeskPair
member_lost part now user group true = []
member_lost part now user group false =
    filter
    (λ pair. is_suspect part (DesksOf user) pair
    && not (stays (with_member part now user group false) pair))
    part.desk_pairs

-- the open desks that end as a grant is given, which are none, or withdrawn
abbrev pub grant_lost : worlds.TreePart → ℕ → ℕ → ℕ → Permission → Bool → List worlds.DeskPair
grant_lost part now group page permission true = []
grant_lost part now group page permission false =
    filter
    (λ pair. is_suspect part (DesksBelow page group) pair
    && not (stays (with_grant part now group page permission false) pair))
    part.desk_pairs
