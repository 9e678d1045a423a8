-- Plans of memberships and grants: what is refused, and what a plan is that is not.
use Rattle.std.proofs.Common.{◌≡◌, ◌&&◌, ℕ, Bool, true, false, not, cond, nat_lt, List, [], length, Option, Result, Ok, Err, refl, sym, ap, ◌∙◌, arith}
use mathlib.Core.Bool.{beq}
use Rattle.std.specs.List.{list_any}
use Rattle.site_types.specs.Content.{ContentValue}
use Rattle.site_types.specs.declared.command.Command.TheVariants as commands
use Rattle.site_types.specs.declared.permission.Permission.{Permission}
use Rattle.site_types.specs.declared.refusal.NameKind.TheVariants as kinds
use Rattle.site_types.specs.declared.refusal.Refusal.TheVariants.{NothingNew, IdsFull, NoName}
use Rattle.site_types.specs.declared.reply.Reply.TheVariants as replies
use Rattle.site_types.specs.declared.world_rows.Grant.{Grant}
use Rattle.site_types.specs.declared.world_rows.Member.{Member}
use Rattle.site_model.specs.World as worlds
use Rattle.site_model.specs.Desks.{stays}
use Rattle.site_model.specs.Limits.{MAX_GRANTS}
use Rattle.site_model.specs.Losing.{DesksOf, DesksBelow, is_suspect, suspects_of, shuts}
use Rattle.site_model.specs.Rules.{is_given}
use Rattle.site_model.specs.Sound.{IsSoundPart}
use Rattle.site_model.specs.Step.{rules, step_by}
use Rattle.site_model.specs.Step as steps
use Rattle.site_model.specs.Users.{agree, is_membership, is_grant, members_after, grants_after, member_rules, grant_rules, set_member, set_grant, with_member, with_grant}
use Rattle.site_model.proofs.LosingEnds.{ends_none, member_ends, grant_ends}
use Rattle.flat_model.specs.Flat.{people_of}
use Rattle.flat_model.specs.declared.change.PeopleChange.TheVariants as changes
use Rattle.site_part.specs.Plans.{Prepares, pages_of}
use Rattle.site_part.specs.Standing.{IsSame}
use Rattle.site_part.specs.declared.fault.Fault.{Fault}
use Rattle.site_part.specs.declared.part.TreePart.{TreePart}
use Rattle.site_part.specs.declared.plan.Plan.{Plan}
use Rattle.site_part.proofs.StandingLemmas.{same_ready}
use Rattle.site_part.proofs.StepLemmas.{own_refuses, pairs_agree}
use Rattle.moderating.specs.Asked.{IsAsked}
use Rattle.flow_edits.specs.People.{ReadiesPlan, member_lost, grant_lost}
use Rattle.flow_edits.proofs.PeoplePlans.{people_planned}
use Rattle.moderating.proofs.Steps.{Agree, none_end, ends_step}

-- a list with something set that is not so already is the list after it
set_so : {X : Type 0} (already : Bool) (before after : X) → already ≡ false →
    cond already before after ≡ after
set_so true before after is = absurd (cc)
set_so false before after is = refl

-- two truth values agree where a test says so
pub agree_is : (on is : Bool) → beq is on ≡ true → agree on is ≡ true
agree_is true true same = refl
agree_is false false same = refl
agree_is true false same = absurd (cc)
agree_is false true same = absurd (cc)

-- and do not where it does not
pub agree_not : (on is : Bool) → beq is on ≡ false → agree on is ≡ false
agree_not true true other = absurd (cc)
agree_not false false other = absurd (cc)
agree_not true false other = refl
agree_not false true other = refl

-- what does not agree with off is on
pub on_is : (on is : Bool) → on ≡ false → agree on is ≡ false → is ≡ true
on_is true is off other = absurd (cc)
on_is false true off other = refl
on_is false false off other = absurd (cc)

-- a test whose opposite is told is the opposite of that
pub not_turned : (test told : Bool) → not test ≡ not told → test ≡ told
not_turned true true is = refl
not_turned false false is = refl
not_turned true false is = absurd (cc)
not_turned false true is = absurd (cc)

-- a membership that begins ends no desk
began : (part : worlds.TreePart) (desk : Option ContentValue) (now caller user group : ℕ)
    (left : worlds.TreePart) (told : worlds.Effect) → IsSoundPart part →
    step_by part desk now caller (commands.Member user group true) ≡ Ok (left, told) →
    told.ended ≡ []
unfolding suspects_of shuts
began part desk now caller user group left told sound step =
    ends_none part left told desk now caller (commands.Member user group true) sound refl refl step

-- nor does a grant that is given
given : (part : worlds.TreePart) (desk : Option ContentValue) (now caller group page : ℕ)
    (permission : Permission) (left : worlds.TreePart) (told : worlds.Effect) → IsSoundPart part →
    step_by part desk now caller (commands.Grant group page permission true) ≡ Ok (left, told) →
    told.ended ≡ []
unfolding suspects_of shuts
given part desk now caller group page permission left told sound step =
    ends_none part left told desk now caller (commands.Grant group page permission true) sound refl
    refl step

module _ (kept : TreePart) (part : worlds.TreePart) (desk : Option ContentValue)
    (now caller : ℕ) where
  -- a membership that begins or ends
  module _ (user group : ℕ) (on : Bool)
      (asked : IsAsked kept part desk caller (commands.Member user group on)) where
    -- the command's own rules, and what it does
    member_own : rules part desk now caller (commands.Member user group on)
        ≡ member_rules part user group on
    unfolding rules
    member_own = refl

    member_done : steps.effect part desk now caller (commands.Member user group on)
        ≡ set_member part now user group on
    unfolding steps.effect
    member_done = refl

    -- whether it is so already
    joined : list_any (is_membership user group) part.members
        ≡ list_any (is_membership user group) kept.grants.members
    joined = ap (list_any (is_membership user group)) (sym asked.given.ready.stands.lists.members)

    -- so it is already
    pub member_known : beq (list_any (is_membership user group) kept.grants.members) on ≡ true →
        step_by part desk now caller (commands.Member user group on) ≡ Err NothingNew
    member_known is =
        own_refuses part desk now caller (commands.Member user group on) NothingNew asked.front
        (member_own ∙ rw (agree_is on (list_any (is_membership user group) part.members)
        (ap (λ t. beq t on) joined ∙ is)) refl)

    -- it is not so already
    module _ (other : beq (list_any (is_membership user group) kept.grants.members) on ≡ false) where
      -- the two do not agree
      member_new : agree on (list_any (is_membership user group) part.members) ≡ false
      member_new =
          agree_not on (list_any (is_membership user group) part.members)
          (ap (λ t. beq t on) joined ∙ other)

      -- no such user
      pub member_no_user : is_given part.next_user user ≡ false →
          step_by part desk now caller (commands.Member user group on) ≡ Err (NoName kinds.User)
      member_no_user none =
          own_refuses part desk now caller (commands.Member user group on) (NoName kinds.User)
          asked.front (member_own ∙ rw (member_new, none) refl)

      -- no such group
      pub member_no_group : is_given part.next_user user ≡ true →
          is_given part.next_group group ≡ false →
          step_by part desk now caller (commands.Member user group on) ≡ Err (NoName kinds.Group)
      member_no_group there none =
          own_refuses part desk now caller (commands.Member user group on) (NoName kinds.Group)
          asked.front (member_own ∙ rw (member_new, there, none) refl)

      -- its plan
      pub member_planned : (mid after : TreePart) → IsSame kept mid → IsSame mid after →
          is_given part.next_user user ≡ true → is_given part.next_group group ≡ true →
          (shut : List ℕ) → shut ≡ pages_of (member_lost part now user group on) →
          (result : Result Plan Fault) →
          ReadiesPlan mid after now replies.Done (changes.Member user group on) shut result →
          Prepares part desk now caller (commands.Member user group on) after result
      member_planned mid after same later there grouped shut shut_is result is =
          people_planned (commands.Member user group on) mid after part
          (with_member part now user group on) desk now caller replies.Done
          (changes.Member user group on) (member_lost part now user group on)
          (same_ready kept mid part same asked.given.ready) later
          (ends_step part desk now caller (commands.Member user group on)
          (with_member part now user group on) replies.Done false asked.front
          (member_own ∙ rw (member_new, there, grouped) refl) member_done refl
          (member_lost part now user group on) (ends on) (agrees on)) tt
          (ap (λ (members : List Member). record (people_of part) { members = members })
          (set_so (agree on (list_any (is_membership user group) part.members)) part.members
          (members_after part.members user group on) member_new)) refl (omega arith) replies.Done
          refl shut shut_is result is
        where
          ends : (t : Bool) → (left : worlds.TreePart) (told : worlds.Effect) →
              step_by part desk now caller (commands.Member user group t) ≡ Ok (left, told) →
              told.ended ≡ member_lost part now user group t
          ends true left told step =
              began part desk now caller user group left told asked.given.ready.reached.sound step
          ends false left told step =
              member_ends part left told desk now caller user group
              asked.given.ready.reached.sound step

          agrees : (t : Bool) → Agree (member_lost part now user group t) part.desk_pairs
          agrees true = none_end part.desk_pairs
          agrees false =
              pairs_agree (λ (pair : worlds.DeskPair). is_suspect part (DesksOf user) pair
              && not (stays (with_member part now user group false) pair)) part.desk_pairs
              asked.given.ready.reached.sound.desks.desks_rise

  -- a grant that is given or withdrawn
  module _ (group page : ℕ) (permission : Permission) (on : Bool)
      (asked : IsAsked kept part desk caller (commands.Grant group page permission on)) where
    -- the command's own rules, and what it does
    grant_own : rules part desk now caller (commands.Grant group page permission on)
        ≡ grant_rules part group page permission on
    unfolding rules
    grant_own = refl

    grant_done : steps.effect part desk now caller (commands.Grant group page permission on)
        ≡ set_grant part now group page permission on
    unfolding steps.effect
    grant_done = refl

    -- whether it is so already
    granted : list_any (is_grant group page permission) part.grants
        ≡ list_any (is_grant group page permission) kept.grants.grants
    granted =
        ap (list_any (is_grant group page permission)) (sym asked.given.ready.stands.lists.grants)

    -- so it is already
    pub grant_known : beq (list_any (is_grant group page permission) kept.grants.grants) on
        ≡ true →
        step_by part desk now caller (commands.Grant group page permission on) ≡ Err NothingNew
    grant_known is =
        own_refuses part desk now caller (commands.Grant group page permission on) NothingNew
        asked.front (grant_own ∙ rw (agree_is on
        (list_any (is_grant group page permission) part.grants)
        (ap (λ t. beq t on) granted ∙ is)) refl)

    -- it is not so already
    module _
        (other : beq (list_any (is_grant group page permission) kept.grants.grants) on ≡ false)
      where
        -- the two do not agree
        pub grant_new : agree on (list_any (is_grant group page permission) part.grants) ≡ false
        grant_new =
            agree_not on (list_any (is_grant group page permission) part.grants)
            (ap (λ t. beq t on) granted ∙ other)

        -- no such group
        pub grant_no_group : is_given part.next_group group ≡ false →
            step_by part desk now caller (commands.Grant group page permission on)
            ≡ Err (NoName kinds.Group)
        grant_no_group none =
            own_refuses part desk now caller (commands.Grant group page permission on)
            (NoName kinds.Group) asked.front (grant_own ∙ rw (grant_new, none) refl)

        -- no room for it
        pub grant_full : is_given part.next_group group ≡ true →
            nat_lt MAX_GRANTS (length (grants_after part.grants group page permission on)) ≡ true →
            step_by part desk now caller (commands.Grant group page permission on) ≡ Err IdsFull
        grant_full there full =
            own_refuses part desk now caller (commands.Grant group page permission on) IdsFull
            asked.front (grant_own ∙ rw (grant_new, there, full) refl)

        -- its plan
        pub grant_planned : (mid after : TreePart) → IsSame kept mid → IsSame mid after →
            is_given part.next_group group ≡ true →
            nat_lt MAX_GRANTS (length (grants_after part.grants group page permission on)) ≡ false →
            (shut : List ℕ) → shut ≡ pages_of (grant_lost part now group page permission on) →
            (result : Result Plan Fault) →
            ReadiesPlan mid after now replies.Done (changes.Grant group page permission on) shut
            result →
            Prepares part desk now caller (commands.Grant group page permission on) after result
        grant_planned mid after same later there room shut shut_is result is =
            people_planned (commands.Grant group page permission on) mid after part
            (with_grant part now group page permission on) desk now caller replies.Done
            (changes.Grant group page permission on) (grant_lost part now group page permission on)
            (same_ready kept mid part same asked.given.ready) later
            (ends_step part desk now caller (commands.Grant group page permission on)
            (with_grant part now group page permission on) replies.Done false asked.front
            (grant_own ∙ rw (grant_new, there, room) refl) grant_done refl
            (grant_lost part now group page permission on) (ends on) (agrees on)) tt
            (ap (λ (grants : List Grant). record (people_of part) { grants = grants })
            (set_so (agree on (list_any (is_grant group page permission) part.grants)) part.grants
            (grants_after part.grants group page permission on) grant_new)) refl (omega arith)
            replies.Done refl shut shut_is result is
          where
            ends : (t : Bool) → (left : worlds.TreePart) (told : worlds.Effect) →
                step_by part desk now caller (commands.Grant group page permission t)
                ≡ Ok (left, told) → told.ended ≡ grant_lost part now group page permission t
            ends true left told step =
                given part desk now caller group page permission left told
                asked.given.ready.reached.sound step
            ends false left told step =
                grant_ends part left told desk now caller group page permission
                asked.given.ready.reached.sound step

            agrees : (t : Bool) → Agree (grant_lost part now group page permission t) part.desk_pairs
            agrees true = none_end part.desk_pairs
            agrees false =
                pairs_agree (λ (pair : worlds.DeskPair). is_suspect part (DesksBelow page group) pair
                && not (stays (with_grant part now group page permission false) pair))
                part.desk_pairs asked.given.ready.reached.sound.desks.desks_rise
