-- What is in memory stands for a world exactly where its lists are those of the world, and what is found
-- fast is in step with them; room makes no difference.
use Rattle.std.proofs.Common.{◌≡◌, ◌+◌, refl, ap, ◌∙◌}
use Rattle.site_model.specs.World as worlds
use Rattle.flat_model.specs.Flat.{people_of, lists_of}
use Rattle.flat_model.specs.Lists.{PeopleLists, PartLists}
use Rattle.flat_model.proofs.ListLemmas.{people_are, lists_are}
use Rattle.grants.specs.Lists.{GrantLists, SameLists, ListsStandFor}
use Rattle.revision_shelf.specs.Shelf.{RevisionList}
use Rattle.desk_pairs.specs.Pairs.{PairList}
use Rattle.workflow.specs.Flows.{FlowLists, SameFlows}
use Rattle.site_part.specs.Standing.{seen, seen_people, InStep, IsSame, StandsFor, IsReady, IsLinked}
use Rattle.site_part.specs.declared.part.TreePart.{TreePart}

-- users, groups, memberships and grants of a world
pub people_seen : (kept : GrantLists) (part : worlds.TreePart) → ListsStandFor kept part →
    seen_people kept ≡ people_of part
people_seen kept part lists =
    people_are (seen_people kept) (people_of part) lists.users lists.groups lists.members
    lists.grants

-- what stands for a world has its lists
pub stands_seen : (kept : TreePart) (part : worlds.TreePart) → StandsFor kept part →
    seen kept ≡ lists_of part
stands_seen kept part stands =
    lists_are (seen kept) (lists_of part) stands.pages stands.revisions
    (people_seen kept.grants part stands.lists) stands.flows.tasks stands.flows.workflows
    stands.desks stands.time stands.next_page stands.next_revision

-- what has the lists of a world, and is in step, stands for it
pub seen_stands : (kept : TreePart) (part : worlds.TreePart) → seen kept ≡ lists_of part →
    InStep kept → IsLinked kept → StandsFor kept part
seen_stands kept part is in_step linked =
    let people : seen_people kept.grants ≡ people_of part = ap (λ (l : PartLists). l.people) is in
    record {
      pages = ap (λ (l : PartLists). l.pages) is;
      revisions = ap (λ (l : PartLists). l.revisions) is;
      lists = record {
        users = ap (λ (l : PeopleLists). l.users) people;
        groups = ap (λ (l : PeopleLists). l.next_group) people;
        members = ap (λ (l : PeopleLists). l.members) people;
        grants = ap (λ (l : PeopleLists). l.grants) people;
      };
      flows = record {
        tasks = ap (λ (l : PartLists). l.tasks) is;
        workflows = ap (λ (l : PartLists). l.workflows) is;
      };
      desks = ap (λ (l : PartLists). l.desk_pairs) is;
      time = ap (λ (l : PartLists). l.time) is;
      next_page = ap (λ (l : PartLists). l.next_page) is;
      next_revision = ap (λ (l : PartLists). l.next_revision) is;
      in_step = in_step;
      linked = linked;
    }

-- what is not changed is the same
pub same_itself : (kept : TreePart) → IsSame kept kept
same_itself kept = record {
  pages = refl;
  revisions = refl;
  lists = record { users = refl; groups = refl; members = refl; grants = refl };
  flows = record { tasks = refl; workflows = refl };
  desks = refl;
  time = refl;
  next_page = refl;
  next_revision = refl;
  indexes = record { expiries = refl; go_lives = refl; aliases = refl; links = refl };
}

-- what is the same twice is the same
pub same_both : (before mid after : TreePart) → IsSame before mid → IsSame mid after →
    IsSame before after
same_both before mid after one other = record {
  pages = other.pages ∙ one.pages;
  revisions = other.revisions ∙ one.revisions;
  lists = record {
    users = other.lists.users ∙ one.lists.users;
    groups = other.lists.groups ∙ one.lists.groups;
    members = other.lists.members ∙ one.lists.members;
    grants = other.lists.grants ∙ one.lists.grants;
  };
  flows = record {
    tasks = other.flows.tasks ∙ one.flows.tasks;
    workflows = other.flows.workflows ∙ one.flows.workflows;
  };
  desks = other.desks ∙ one.desks;
  time = other.time ∙ one.time;
  next_page = other.next_page ∙ one.next_page;
  next_revision = other.next_revision ∙ one.next_revision;
  indexes = record {
    expiries = other.indexes.expiries ∙ one.indexes.expiries;
    go_lives = other.indexes.go_lives ∙ one.indexes.go_lives;
    aliases = other.indexes.aliases ∙ one.indexes.aliases;
    links = other.indexes.links ∙ one.indexes.links;
  };
}

-- with the same users, groups, memberships and grants all is the same
pub same_grants : (kept : TreePart) (grants : GrantLists) → SameLists kept.grants grants →
    IsSame kept (record kept { grants = grants })
same_grants kept grants same = record {
  pages = refl;
  revisions = refl;
  lists = same;
  flows = record { tasks = refl; workflows = refl };
  desks = refl;
  time = refl;
  next_page = refl;
  next_revision = refl;
  indexes = record { expiries = refl; go_lives = refl; aliases = refl; links = refl };
}

-- with the same tasks and workflows all is the same
pub same_flows : (kept : TreePart) (flows : FlowLists) → SameFlows kept.flows flows →
    IsSame kept (record kept { flows = flows })
same_flows kept flows same = record {
  pages = refl;
  revisions = refl;
  lists = record { users = refl; groups = refl; members = refl; grants = refl };
  flows = same;
  desks = refl;
  time = refl;
  next_page = refl;
  next_revision = refl;
  indexes = record { expiries = refl; go_lives = refl; aliases = refl; links = refl };
}

-- with other room for revisions all is the same
pub same_shelf : (kept : TreePart) (shelf : RevisionList) → shelf.revisions ≡ kept.shelf.revisions →
    IsSame kept (record kept { shelf = shelf })
same_shelf kept shelf is = record {
  pages = refl;
  revisions = is;
  lists = record { users = refl; groups = refl; members = refl; grants = refl };
  flows = record { tasks = refl; workflows = refl };
  desks = refl;
  time = refl;
  next_page = refl;
  next_revision = refl;
  indexes = record { expiries = refl; go_lives = refl; aliases = refl; links = refl };
}

-- with other room for desks all is the same
pub same_pairs : (kept : TreePart) (pairs : PairList) → pairs.pairs ≡ kept.desk_pairs.pairs →
    IsSame kept (record kept { desk_pairs = pairs })
same_pairs kept pairs is = record {
  pages = refl;
  revisions = refl;
  lists = record { users = refl; groups = refl; members = refl; grants = refl };
  flows = record { tasks = refl; workflows = refl };
  desks = is;
  time = refl;
  next_page = refl;
  next_revision = refl;
  indexes = record { expiries = refl; go_lives = refl; aliases = refl; links = refl };
}

-- what is the same but for room has the same lists
pub same_seen : (before after : TreePart) → IsSame before after → seen after ≡ seen before
same_seen before after same =
    lists_are (seen after) (seen before) same.pages same.revisions
    (people_are (seen_people after.grants) (seen_people before.grants) same.lists.users
    (ap (λ n. n + 1) same.lists.groups) same.lists.members same.lists.grants)
    same.flows.tasks same.flows.workflows same.desks same.time same.next_page same.next_revision

-- what is in step is so with other room
same_in_step : (before after : TreePart) → IsSame before after → InStep before → InStep after
same_in_step before after same step = record {
  timed = record {
    expiries = λ page.
        rw (same.indexes.expiries, same.pages, same.revisions) (step.timed.expiries page);
    go_lives = λ page.
        rw (same.indexes.go_lives, same.pages, same.revisions) (step.timed.go_lives page);
  };
  aliased = λ source alias.
      rw (same.indexes.aliases, same.pages) (step.aliased source alias);
}

-- so are the links
same_linked : (before after : TreePart) → IsSame before after → IsLinked before → IsLinked after
same_linked before after same is linked page =
    rw (same.indexes.links, same.pages, same.revisions) (is linked page)

-- what stands for a world stands for it with other room
pub same_stands : (before after : TreePart) (part : worlds.TreePart) → IsSame before after →
    StandsFor before part → StandsFor after part
same_stands before after part same stands =
    seen_stands after part (same_seen before after same ∙ stands_seen before part stands)
    (same_in_step before after same stands.in_step)
    (same_linked before after same stands.linked)

-- and is ready with it
pub same_ready : (before after : TreePart) (part : worlds.TreePart) → IsSame before after →
    IsReady before part → IsReady after part
same_ready before after part same ready = record {
  stands = same_stands before after part same ready.stands;
  reached = ready.reached;
}
