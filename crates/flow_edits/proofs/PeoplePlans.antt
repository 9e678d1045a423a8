-- Plans of commands on users and groups: what is refused, and what a plan is that is not.
use Rattle.std.proofs.Common.{◌≡◌, ◌<◌, ◌≤◌, ◌+◌, ℕ, Bool, true, false, List, [], length, is_some, Option, Some, None, Result, Ok, Err, max, refl, sym, ap, subst, ◌∙◌, arith}
use Rattle.site_ids.specs.declared.ids.TheConstants.{LAST_USER_ID, LAST_GROUP_ID}
use Rattle.site_types.specs.Content.{ContentValue}
use Rattle.site_types.specs.declared.command.Command.{Command}
use Rattle.site_types.specs.declared.command.Command.TheVariants as commands
use Rattle.site_types.specs.declared.refusal.Refusal.TheVariants.{NothingNew, IdsFull}
use Rattle.site_types.specs.declared.reply.Reply.{Reply}
use Rattle.site_types.specs.declared.reply.Reply.TheVariants as replies
use Rattle.site_model.specs.World as worlds
use Rattle.site_model.specs.Losing.{suspects_of, shuts}
use Rattle.site_model.specs.Rights.{user_of}
use Rattle.site_model.specs.Step.{rules, step_by}
use Rattle.site_model.specs.Step as steps
use Rattle.site_model.specs.Users.{user_rules, group_rules, define_user, define_group, with_user, with_group}
use Rattle.site_model.proofs.LosingEnds.{ends_none}
use Rattle.flat_model.specs.Fits.{PeopleFit}
use Rattle.flat_model.specs.Flat.{people_of, lists_of}
use Rattle.flat_model.specs.Lists.{PartLists}
use Rattle.flat_model.specs.Made.{people_made}
use Rattle.flat_model.specs.Single.{people_change}
use Rattle.flat_model.specs.declared.change.PeopleChange.{PeopleChange}
use Rattle.flat_model.specs.declared.change.PeopleChange.TheVariants as changes
use Rattle.flat_model.proofs.ListLemmas.{lists_are, quiet_revisions, quiet_people}
use Rattle.site_part.specs.Plans.{Prepares, HasPlan, people_needed, left_by, pairs_left, pages_of}
use Rattle.site_part.specs.Standing.{IsReady, IsSame}
use Rattle.site_part.specs.declared.fault.Fault.{Fault}
use Rattle.site_part.specs.declared.part.TreePart.{TreePart}
use Rattle.site_part.specs.declared.plan.Plan.{Plan}
use Rattle.site_part.proofs.StandingLemmas.{same_ready}
use Rattle.site_part.proofs.StepLemmas.{own_refuses}
use Rattle.moderating.specs.Asked.{IsAsked}
use Rattle.flow_edits.specs.People.{ReadiesPlan}
use Rattle.moderating.specs.Plans.{ending_plan}
use Rattle.moderating.proofs.Counts.{count_full, count_left}
use Rattle.moderating.proofs.Planned.{planned}
use Rattle.moderating.proofs.Steps.{part_left, ending, none_end, ends_step}

-- a plan of a command that no rule refuses, where memory did not run out
pub people_planned : (command : Command) (before after : TreePart) (part left : worlds.TreePart)
    (desk : Option ContentValue) (now caller : ℕ) (reply : Reply) (people : PeopleChange)
    (ended : List worlds.DeskPair) → IsReady before part → IsSame before after →
    step_by part desk now caller command
    ≡ Ok (part_left left part.desk_pairs ended, ending reply ended) →
    PeopleFit people (people_of part) → people_made people (people_of part) ≡ people_of left →
    lists_of left ≡ record (lists_of part) {
      people = people_of left;
      time = worlds.time_at part now;
    } → people_needed people ≤ 1 → (told : Reply) → told ≡ reply → (shut : List ℕ) →
    shut ≡ pages_of ended → (result : Result Plan Fault) →
    ReadiesPlan before after now told people shut result →
    Prepares part desk now caller command after result
people_planned command before after part left desk now caller reply people ended ready same step
    people_fit people_is rest few told told_is shut shut_is (Ok plan) is =
    let time = max before.time now in
    let change = people_change people time before.next_page before.next_revision in
    let stands = ready.stands in
    let quiet = quiet_people (people_of part) in
    let room = is.room in
    let lists : PartLists = record (lists_of part) {
      people = people_of left;
      desk_pairs = pairs_left (pages_of ended) part.desk_pairs;
      time = worlds.time_at part now;
    } in
    let leads : left_by (ending_plan reply (pages_of ended) change) (lists_of part)
    ≡ lists_of (part_left left part.desk_pairs ended) =
    lists_are (left_by (ending_plan reply (pages_of ended) change) (lists_of part)) lists refl
    (quiet_revisions part.revisions) (ap (people_made people) quiet ∙ people_is) refl refl refl
    (ap (λ t. max t now) stands.time) stands.next_page stands.next_revision
    ∙ ap (λ (l : PartLists).
    record l { desk_pairs = pairs_left (pages_of ended) part.desk_pairs }) (sym rest) in
    let has = planned command after part left desk now caller reply ended change
    (same_ready before after part same ready) step (record {
      tree = tt;
      bodies = tt;
      gone = tt;
      revisions = tt;
      people = subst (PeopleFit people) (sym quiet) people_fit;
      flows = tt;
    }) leads (omega arith) (omega arith) (omega (arith, room, few)) (omega arith) in
    let plan_is : plan ≡ ending_plan reply (pages_of ended) change =
    is.plan_is
    ∙ (ap (λ (r : Reply). ending_plan r shut change) told_is
    ∙ ap (λ (pages : List ℕ). ending_plan reply pages change) shut_is) in
    subst (λ (p : Plan). HasPlan after part desk now caller command p) (sym plan_is) has
people_planned command before after part left desk now caller reply people ended ready same step
    people_fit people_is rest few told told_is shut shut_is (Err fault) is =
    subst (λ (f : Fault). Prepares part desk now caller command after (Err f)) (sym is) tt

-- nothing is some where it is not
none_of : {X : Type 0} (found : Option X) → is_some found ≡ false → found ≡ None
none_of None is = refl
none_of (Some x) is = absurd (cc)

module _ (kept : TreePart) (part : worlds.TreePart) (desk : Option ContentValue)
    (now caller : ℕ) where
  -- one user more
  module _ (superuser : Bool) (digest : List ℕ)
      (asked : IsAsked kept part desk caller (commands.DefineUser superuser digest)) where
    -- the command's own rules, and what it does
    user_own : rules part desk now caller (commands.DefineUser superuser digest)
        ≡ user_rules part digest
    unfolding rules
    user_own = refl

    user_done : steps.effect part desk now caller (commands.DefineUser superuser digest)
        ≡ define_user part now superuser digest
    unfolding steps.effect
    user_done = refl

    -- it ends no desk
    user_ends : (left : worlds.TreePart) (told : worlds.Effect) →
        step_by part desk now caller (commands.DefineUser superuser digest) ≡ Ok (left, told) →
        told.ended ≡ []
    unfolding suspects_of shuts
    user_ends left told is =
        ends_none part left told desk now caller (commands.DefineUser superuser digest)
        asked.given.ready.reached.sound refl refl is

    -- whether the digest is known
    known : is_some (user_of digest part.users) ≡ is_some (user_of digest kept.grants.users)
    known =
        ap (λ users. is_some (user_of digest users)) (sym asked.given.ready.stands.lists.users)

    -- the number of users
    users_are : length kept.grants.users + 1 ≡ part.next_user
    users_are =
        ap (λ users. length users + 1) asked.given.ready.stands.lists.users
        ∙ sym asked.given.ready.reached.sound.people.numbered

    -- a known digest
    pub user_known : is_some (user_of digest kept.grants.users) ≡ true →
        step_by part desk now caller (commands.DefineUser superuser digest) ≡ Err NothingNew
    user_known is =
        own_refuses part desk now caller (commands.DefineUser superuser digest) NothingNew
        asked.front (user_own ∙ rw (known, is) refl)

    -- no number is left
    pub user_full : is_some (user_of digest kept.grants.users) ≡ false →
        LAST_USER_ID ≤ length kept.grants.users →
        step_by part desk now caller (commands.DefineUser superuser digest) ≡ Err IdsFull
    user_full new full =
        own_refuses part desk now caller (commands.DefineUser superuser digest) IdsFull
        asked.front (user_own ∙ rw (
          known,
          new,
          count_full LAST_USER_ID (length kept.grants.users) part.next_user users_are full,
        ) refl)

    -- its plan
    pub user_planned : (after : TreePart) → IsSame kept after →
        is_some (user_of digest kept.grants.users) ≡ false →
        length kept.grants.users < LAST_USER_ID → (number : ℕ) →
        number ≡ length kept.grants.users + 1 → (shut : List ℕ) → shut ≡ [] →
        (result : Result Plan Fault) →
        ReadiesPlan kept after now (replies.Id number) (changes.User superuser digest) shut result →
        Prepares part desk now caller (commands.DefineUser superuser digest) after result
    user_planned after same new left number number_is shut shut_is result is =
        let ready = asked.given.ready in
        let users = ready.stands.lists.users in
        let fewer : length part.users < LAST_USER_ID =
        subst (λ us. length us < LAST_USER_ID) users left in
        people_planned (commands.DefineUser superuser digest) kept after part
        (with_user part now superuser digest) desk now caller (replies.Id part.next_user)
        (changes.User superuser digest) [] ready same
        (ends_step part desk now caller (commands.DefineUser superuser digest)
        (with_user part now superuser digest) (replies.Id part.next_user) false asked.front
        (user_own ∙ rw (
          known,
          new,
          count_left LAST_USER_ID (length kept.grants.users) part.next_user users_are left,
        ) refl) user_done refl [] user_ends (none_end part.desk_pairs))
        (fewer, none_of (user_of digest part.users) (known ∙ new)) refl refl (omega arith)
        (replies.Id number) (ap replies.Id (number_is ∙ users_are)) shut shut_is result is

  -- one group more
  module _ (asked : IsAsked kept part desk caller commands.DefineGroup) where
    -- the command's own rule, and what it does
    group_own : rules part desk now caller commands.DefineGroup ≡ group_rules part
    unfolding rules
    group_own = refl

    group_done : steps.effect part desk now caller commands.DefineGroup ≡ define_group part now
    unfolding steps.effect
    group_done = refl

    -- it ends no desk
    group_ends : (left : worlds.TreePart) (told : worlds.Effect) →
        step_by part desk now caller commands.DefineGroup ≡ Ok (left, told) → told.ended ≡ []
    unfolding suspects_of shuts
    group_ends left told is =
        ends_none part left told desk now caller commands.DefineGroup
        asked.given.ready.reached.sound refl refl is

    -- no number is left
    pub group_full : LAST_GROUP_ID ≤ kept.grants.groups →
        step_by part desk now caller commands.DefineGroup ≡ Err IdsFull
    group_full full =
        own_refuses part desk now caller commands.DefineGroup IdsFull asked.front
        (group_own ∙ rw (count_full LAST_GROUP_ID kept.grants.groups part.next_group
        asked.given.ready.stands.lists.groups full) refl)

    -- its plan
    pub group_planned : (after : TreePart) → IsSame kept after →
        kept.grants.groups < LAST_GROUP_ID → (number : ℕ) → number ≡ kept.grants.groups + 1 →
        (shut : List ℕ) → shut ≡ [] → (result : Result Plan Fault) →
        ReadiesPlan kept after now (replies.Id number) changes.Group shut result →
        Prepares part desk now caller commands.DefineGroup after result
    group_planned after same left number number_is shut shut_is result is =
        let ready = asked.given.ready in
        people_planned commands.DefineGroup kept after part (with_group part now) desk now caller
        (replies.Id part.next_group) changes.Group [] ready same
        (ends_step part desk now caller commands.DefineGroup (with_group part now)
        (replies.Id part.next_group) false asked.front
        (group_own ∙ rw (count_left LAST_GROUP_ID kept.grants.groups part.next_group
        ready.stands.lists.groups left) refl) group_done refl [] group_ends
        (none_end part.desk_pairs))
        (let groups = ready.stands.lists.groups in omega (arith, left, groups)) refl refl
        (omega arith) (replies.Id number) (ap replies.Id (number_is ∙ ready.stands.lists.groups))
        shut shut_is result is
