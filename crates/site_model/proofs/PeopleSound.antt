-- The commands on users, groups and memberships keep a world sound.
use Rattle.std.proofs.Common.{◌≡◌, ◌<◌, ◌≤◌, ◌+◌, ℕ, Bool, true, false, cond, not, ◌||◌, ◌&&◌, List, [], ◌∷◌, ◌++◌, length, bytes_eq, Option, Some, None, nat_eq, nat_lt, suc, refl, arith}
use Rattle.std.specs.Prelude.{IfSome}
use Rattle.std.proofs.lemmas.Bool.Decides.{nat_tests}
use Rattle.std.specs.List.{AllByRecursion, list_any}
use Rattle.std.specs.Option.{is_some}
use Rattle.site_ids.specs.declared.digest.TheConstants.{DIGEST_BYTES}
use Rattle.site_ids.specs.declared.ids.TheConstants.{LAST_USER_ID, LAST_GROUP_ID}
use Rattle.site_ids.specs.Moment.{IsMoment}
use Rattle.site_types.specs.declared.moderation.Moderation.{Moderation}
use Rattle.site_types.specs.declared.body.Body.{Body}
use Rattle.site_types.specs.declared.refusal.NameKind.TheVariants as kinds
use Rattle.site_types.specs.declared.refusal.Refusal.TheVariants.{IdsFull, NothingNew, NoName}
use Rattle.site_types.specs.declared.revision.Revision.{Revision}
use Rattle.site_types.specs.declared.world_rows.UserRow.{UserRow}
use Rattle.site_types.specs.declared.world_rows.Member.{Member}
use Rattle.site_types.specs.declared.world_rows.Grant.{Grant}
use Rattle.tree_model.proofs.PageLemmas.{AllPages-weaker, all_weaker}
use Rattle.site_model.specs.World.{TreePart}
use Rattle.site_model.specs.Rights.{user_from, user_of}
use Rattle.site_model.specs.Rules.{is_given, no_user, no_group, ids_full}
use Rattle.site_model.specs.Users.{member_key, membership, is_membership, agree, user_rules, group_rules, member_rules, with_user, with_group, with_member, members_after}
use Rattle.site_model.specs.Sound.{IsGiven, IsNext, KeysRise, IsBody, FitsModeration, DigestsDiffer, NamesBoth, ArePeople, NamesSome}
use Rattle.site_model.proofs.ClearLemmas.{first_clear, test_clear, not_false, limit_clear}
use Rattle.site_model.proofs.Groups.{AreGroups}
use Rattle.site_model.proofs.OrderLemmas.{all_put, rise_put, all_filter, rise_filter}

-- one more
pub all_appended : {X : Type 0} (P : X → Type 0) (xs : List X) (x : X) → AllByRecursion P xs → P x →
    AllByRecursion P (xs ++ x ∷ [])
all_appended P [] x all one = (one, tt)
all_appended P (y ∷ xs) x all one = (all.0, all_appended P xs x all.1 one)

-- a list with one more is longer by one
pub length_appended : {X : Type 0} (xs : List X) (x : X) → length (xs ++ x ∷ []) ≡ length xs + 1
length_appended [] x = refl
length_appended (y ∷ xs) x = let more = length_appended xs x in omega (arith, more)

-- a user with another digest than each
digests_appended : (users : List UserRow) (new : UserRow) → DigestsDiffer users →
    AllByRecursion (λ (other : UserRow). bytes_eq other.digest new.digest ≡ false) users →
    DigestsDiffer (users ++ new ∷ [])
digests_appended [] new differ apart = (tt, tt)
digests_appended (user ∷ users) new differ apart = (
  all_appended (λ (other : UserRow). bytes_eq user.digest other.digest ≡ false) users new differ.0
      apart.0,
  digests_appended users new differ.1 apart.1,
)

-- where no user is found by a digest none has it
pub none_found : (number : ℕ) (digest : List ℕ) (users : List UserRow) →
    is_some (user_from number digest users) ≡ false →
    AllByRecursion (λ (other : UserRow). bytes_eq other.digest digest ≡ false) users
none_found number digest [] is = tt
none_found number digest (user ∷ users) is =
    choice (bytes_eq user.digest digest) refl is (none_found (suc number) digest users)
  where
    choice : (t : Bool) → bytes_eq user.digest digest ≡ t →
        is_some (cond t (Some number) (user_from (suc number) digest users)) ≡ false →
        (is_some (user_from (suc number) digest users) ≡ false →
        AllByRecursion (λ (other : UserRow). bytes_eq other.digest digest ≡ false) users) →
        (bytes_eq user.digest digest ≡ false)
        × AllByRecursion (λ (other : UserRow). bytes_eq other.digest digest ≡ false) users
    choice true e h more = absurd (cc)
    choice false e h more = (e, more h)

-- the next id, where one was left
pub next_one : (last next : ℕ) → next ≤ last → IsNext last (next + 1)
next_one last next left = (omega arith, omega (arith, left))

-- what the test on ids tells
pub given_by : (next id : ℕ) → (nat_lt 0 id && nat_lt id next) ≡ true → IsGiven next id
given_by next id is = (grind (arith, nat_tests), grind (arith, nat_tests))

-- where none of a list passes a test each fails it
pub none_passes : {X : Type 0} (P : X → Type 0) (test : X → Bool) (xs : List X) →
    ((x : X) → test x ≡ false → P x) → list_any test xs ≡ false → AllByRecursion P xs
none_passes P test [] tells is = tt
none_passes P test (x ∷ xs) tells is =
    let parts = neither (test x) (list_any test xs) is in
    (tells x parts.0, none_passes P test xs tells parts.1)
  where
    neither : (a b : Bool) → (a || b) ≡ false → (a ≡ false) × (b ≡ false)
    neither true b h = absurd (cc)
    neither false b h = (refl, h)

-- another membership has another key
other_pair : (a b user group : ℕ) → (nat_eq a user && nat_eq b group) ≡ false →
    a ∷ b ∷ [] ≡ user ∷ group ∷ [] → ⊥
other_pair a b user group is same =
    let first : a ≡ user = cc in
    let second : b ≡ group = cc in grind (arith, nat_tests)

-- another grant has another key
pub other_triple : (a b c page group number : ℕ) →
    (nat_eq a page && (nat_eq b group && nat_eq c number)) ≡ false →
    a ∷ b ∷ c ∷ [] ≡ page ∷ group ∷ number ∷ [] → ⊥
other_triple a b c page group number is same =
    let first : a ≡ page = cc in
    let second : b ≡ group = cc in
    let third : c ≡ number = cc in grind (arith, nat_tests)

-- an id of a user that is there is one where more are there
pub given_more : (users : ℕ) (id : Option ℕ) → IfSome id (IsGiven users) →
    IfSome id (IsGiven (users + 1))
given_more users None is = tt
given_more users (Some id) is = (is.0, omega (arith, is.1))

-- so is who submitted a moderation
moderation_more : (revisions : List Revision) (users next : ℕ) (workflows : List (List ℕ))
    (page : ℕ) (moderation : Option Moderation) →
    IfSome moderation (FitsModeration revisions users next workflows page) →
    IfSome moderation (FitsModeration revisions (users + 1) next workflows page)
moderation_more revisions users next workflows page None is = tt
moderation_more revisions users next workflows page (Some moderation) is = record {
  workflow = is.workflow;
  task_counted = is.task_counted;
  task_within = is.task_within;
  revision = is.revision;
  by = omega (arith, is.by);
}

-- what is kept of a page, where one user more is there
body_more : (revisions : List Revision) (users next : ℕ) (workflows : List (List ℕ)) (id : ℕ)
    (body : Body) → IsBody revisions users next workflows id body →
    IsBody revisions (users + 1) next workflows id body
body_more revisions users next workflows id body is = record {
  root = is.root;
  regular = is.regular;
  alias = is.alias;
  owner = omega (arith, is.owner);
  lock = given_more users body.locked_by is.lock;
  assigned = is.assigned;
  moderation = moderation_more revisions users next workflows id body.moderation is.moderation;
  first_published = is.first_published;
  last_published = is.last_published;
}

-- one user more
people_with_user : (part : TreePart) (now : ℕ) (superuser : Bool) (digest : List ℕ) →
    AreGroups part → length digest ≡ DIGEST_BYTES → part.next_user ≤ LAST_USER_ID →
    is_some (user_of digest part.users) ≡ false →
    ArePeople (with_user part now superuser digest).users part.members (part.next_user + 1)
    part.next_group
people_with_user part now superuser digest sound fits left free =
    let new : UserRow = record { superuser = superuser; digest = digest } in
    let old = sound.people in
    record {
      next_user = next_one LAST_USER_ID part.next_user left;
      next_group = old.next_group;
      numbered = let more = length_appended part.users new in omega (arith, more, old.numbered);
      digests_fit = all_appended (λ (user : UserRow). length user.digest ≡ DIGEST_BYTES) part.users
          new old.digests_fit fits;
      digests = digests_appended part.users new old.digests (none_found 1 digest part.users free);
      members_name = all_weaker (NamesBoth part.next_user part.next_group)
          (NamesBoth (part.next_user + 1) part.next_group) part.members
          (λ member both. ((both.0.0, omega (arith, both.0.1)), both.1)) old.members_name;
      members_rise = old.members_rise;
    }

-- the definition of a user that no rule refuses keeps a world sound
pub user_keeps_sound : (part : TreePart) (now : ℕ) (superuser : Bool) (digest : List ℕ) →
    AreGroups part → IsMoment now → length digest ≡ DIGEST_BYTES →
    user_rules part digest ≡ None → AreGroups (with_user part now superuser digest)
user_keeps_sound part now superuser digest sound moment fits none =
    let new = first_clear _ _ none in
    let left = first_clear (ids_full LAST_USER_ID part.next_user) [] new.1 in
    let free = test_clear (is_some (user_of digest part.users)) NothingNew new.0 in
    let room = limit_clear LAST_USER_ID part.next_user (test_clear _ IdsFull left.0) in
    record {
      time = omega (arith, sound.time, moment);
      pages = sound.pages;
      revisions = record {
        next_revision = sound.revisions.next_revision;
        revision_ids = sound.revisions.revision_ids;
        revisions_rise = sound.revisions.revisions_rise;
        revisions_have_pages = sound.revisions.revisions_have_pages;
        revisions_below_root = sound.revisions.revisions_below_root;
        authors = all_weaker (λ (revision : Revision). revision.by < part.next_user)
            (λ (revision : Revision). revision.by < part.next_user + 1) part.revisions
            (λ revision lower. omega (arith, lower)) sound.revisions.authors;
        moments = sound.revisions.moments;
        contents = sound.revisions.contents;
        contents_fit = sound.revisions.contents_fit;
      };
      bodies = record {
        bodies = AllPages-weaker _ _ part.tree
            (λ id slug body is. body_more part.revisions part.next_user part.next_workflow
            part.workflows id body is) sound.bodies.bodies;
        sources = sound.bodies.sources;
      };
      people = people_with_user part now superuser digest sound fits room free;
      tasks = sound.tasks;
      grants = sound.grants;
    }

-- a list that names what is there names it where more is there
pub names_more : (next : ℕ) (ids : List ℕ) → NamesSome next ids → NamesSome (next + 1) ids
names_more next ids is = record {
  not_empty = is.not_empty;
  fits = is.fits;
  there = all_weaker (IsGiven next) (IsGiven (next + 1)) ids
      (λ id given. (given.0, omega (arith, given.1))) is.there;
}

-- the definition of a group that no rule refuses keeps a world sound
pub group_keeps_sound : (part : TreePart) (now : ℕ) → AreGroups part → IsMoment now →
    group_rules part ≡ None → AreGroups (with_group part now)
group_keeps_sound part now sound moment none =
    let room = limit_clear LAST_GROUP_ID part.next_group (test_clear _ IdsFull none) in
    record {
      time = omega (arith, sound.time, moment);
      pages = sound.pages;
      revisions = sound.revisions;
      bodies = sound.bodies;
      people = record {
        next_user = sound.people.next_user;
        next_group = next_one LAST_GROUP_ID part.next_group room;
        numbered = sound.people.numbered;
        digests_fit = sound.people.digests_fit;
        digests = sound.people.digests;
        members_name = all_weaker (NamesBoth part.next_user part.next_group)
            (NamesBoth part.next_user (part.next_group + 1)) part.members
            (λ member both. (both.0, (both.1.0, omega (arith, both.1.1))))
            sound.people.members_name;
        members_rise = sound.people.members_rise;
      };
      tasks = record {
        next_task = sound.tasks.next_task;
        next_workflow = sound.tasks.next_workflow;
        tasks_numbered = sound.tasks.tasks_numbered;
        workflows_numbered = sound.tasks.workflows_numbered;
        task_groups = all_weaker (NamesSome part.next_group) (NamesSome (part.next_group + 1))
            part.tasks (names_more part.next_group) sound.tasks.task_groups;
        task_groups_rise = sound.tasks.task_groups_rise;
        workflow_tasks = sound.tasks.workflow_tasks;
      };
      grants = record {
        grants_name = all_weaker (λ (grant : Grant). IsGiven part.next_group grant.group)
            (λ (grant : Grant). IsGiven (part.next_group + 1) grant.group) part.grants
            (λ grant given. (given.0, omega (arith, given.1))) sound.grants.grants_name;
        grants_have_pages = sound.grants.grants_have_pages;
        grants_rise = sound.grants.grants_rise;
        grants_fit = sound.grants.grants_fit;
      };
    }

-- the memberships with one more or one less
members_sound : (part : TreePart) (user group : ℕ) (on : Bool) → AreGroups part →
    agree on (list_any (is_membership user group) part.members) ≡ false →
    IsGiven part.next_user user → IsGiven part.next_group group →
    AllByRecursion (NamesBoth part.next_user part.next_group)
    (members_after part.members user group on)
    × KeysRise member_key (members_after part.members user group on)
members_sound part user group true sound new first second = (
  all_put (NamesBoth part.next_user part.next_group) member_key (membership user group)
      part.members (first, second) sound.people.members_name,
  rise_put member_key (membership user group) part.members
      (none_passes (λ (member : Member). member_key member ≡ member_key (membership user group) → ⊥)
      (is_membership user group) part.members
      (λ member is. other_pair member.user member.group user group is) new)
      sound.people.members_rise,
)
members_sound part user group false sound new first second = (
  all_filter (NamesBoth part.next_user part.next_group)
      (λ (member : Member). not (is_membership user group member)) part.members
      sound.people.members_name,
  rise_filter member_key (λ (member : Member). not (is_membership user group member)) part.members
      sound.people.members_rise,
)

-- a membership that no rule refuses keeps a world sound
pub member_keeps_sound : (part : TreePart) (now user group : ℕ) (on : Bool) → AreGroups part →
    IsMoment now → member_rules part user group on ≡ None →
    AreGroups (with_member part now user group on)
member_keeps_sound part now user group on sound moment none =
    let new = first_clear _ _ none in
    let first = first_clear (no_user part user) _ new.1 in
    let second = first_clear (no_group part group) [] first.1 in
    let apart = test_clear (agree on (list_any (is_membership user group) part.members))
    NothingNew new.0 in
    let named = given_by part.next_user user
    (not_false (is_given part.next_user user) (test_clear _ (NoName kinds.User) first.0)) in
    let grouped = given_by part.next_group group
    (not_false (is_given part.next_group group) (test_clear _ (NoName kinds.Group) second.0)) in
    let members = members_sound part user group on sound apart named grouped in
    record {
      time = omega (arith, sound.time, moment);
      pages = sound.pages;
      revisions = sound.revisions;
      bodies = sound.bodies;
      people = record {
        next_user = sound.people.next_user;
        next_group = sound.people.next_group;
        numbered = sound.people.numbered;
        digests_fit = sound.people.digests_fit;
        digests = sound.people.digests;
        members_name = members.0;
        members_rise = members.1;
      };
      tasks = sound.tasks;
      grants = sound.grants;
    }
