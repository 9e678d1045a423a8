-- Lists whose parts are the same are the same.
use Rattle.std.proofs.Common.{◌≡◌, ℕ, List, [], ◌∷◌, ◌++◌, refl, ap, ◌∙◌}
use Rattle.std.proofs.lemmas.List.{append-nil}
use Rattle.page_tree.specs.Rows.{Row}
use Rattle.site_types.specs.declared.body.Body.{Body}
use Rattle.site_types.specs.declared.revision.Revision.{Revision}
use Rattle.site_types.specs.declared.world_rows.Grant.{Grant}
use Rattle.site_types.specs.declared.world_rows.Member.{Member}
use Rattle.site_types.specs.declared.world_rows.UserRow.{UserRow}
use Rattle.site_model.specs.World.{DeskPair}
use Rattle.flat_model.specs.Lists.{PeopleLists, PartLists}
use Rattle.flat_model.specs.Made.{of_others, revisions_left, people_left}

-- users, groups, memberships and grants, part by part
abbrev people_from : List UserRow → ℕ → List Member → List Grant → PeopleLists
people_from users next_group members grants =
    record { users = users; next_group = next_group; members = members; grants = grants }

-- users, groups, memberships and grants
pub people_are : (one other : PeopleLists) → one.users ≡ other.users →
    one.next_group ≡ other.next_group → one.members ≡ other.members →
    one.grants ≡ other.grants → one ≡ other
people_are one other users groups members grants =
    ap (λ u. people_from u one.next_group one.members one.grants) users
    ∙ (ap (λ n. people_from other.users n one.members one.grants) groups
    ∙ (ap (λ m. people_from other.users other.next_group m one.grants) members
    ∙ ap (people_from other.users other.next_group other.members) grants))

-- all lists, part by part
abbrev lists_from : List (Row Body) → List Revision → PeopleLists → List (List ℕ) →
    List (List ℕ) → List DeskPair → ℕ → ℕ → ℕ → PartLists
lists_from pages revisions people tasks workflows desk_pairs time next_page next_revision =
    record {
      pages = pages;
      revisions = revisions;
      people = people;
      tasks = tasks;
      workflows = workflows;
      desk_pairs = desk_pairs;
      time = time;
      next_page = next_page;
      next_revision = next_revision;
    }

-- all lists
pub lists_are : (one other : PartLists) → one.pages ≡ other.pages →
    one.revisions ≡ other.revisions → one.people ≡ other.people → one.tasks ≡ other.tasks →
    one.workflows ≡ other.workflows → one.desk_pairs ≡ other.desk_pairs →
    one.time ≡ other.time → one.next_page ≡ other.next_page →
    one.next_revision ≡ other.next_revision → one ≡ other
lists_are one other pages revisions people tasks workflows desks time next_page next_revision =
    let same : lists_from one.pages one.revisions one.people one.tasks one.workflows
    one.desk_pairs one.time one.next_page one.next_revision
    ≡ lists_from other.pages other.revisions other.people other.tasks other.workflows
    other.desk_pairs other.time other.next_page other.next_revision =
    rw (
      pages,
      revisions,
      people,
      tasks,
      workflows,
      desks,
      time,
      next_page,
      next_revision,
    ) refl in
    same

-- items of no pages are not taken out
pub none_out : {X : Type 0} (page : X → ℕ) (items : List X) → of_others page [] items ≡ items
none_out page [] = refl
none_out page (item ∷ items) = ap (λ more. item ∷ more) (none_out page items)

-- where no page goes and no revision comes the revisions stay
pub quiet_revisions : (revisions : List Revision) → revisions_left [] revisions ++ [] ≡ revisions
quiet_revisions revisions =
    append-nil (revisions_left [] revisions)
    ∙ none_out (λ (revision : Revision). revision.page) revisions

-- where no page goes users, groups, memberships and grants stay
pub quiet_people : (lists : PeopleLists) → people_left [] lists ≡ lists
quiet_people lists =
    people_are (people_left [] lists) lists refl refl refl
    (none_out (λ (grant : Grant). grant.page) lists.grants)
