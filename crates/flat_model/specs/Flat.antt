-- The lists of a world's tree part.
use Rattle.page_tree.specs.Rows.{rows_of}
use Rattle.site_model.specs.World.{TreePart}
use Rattle.flat_model.specs.Lists.{PeopleLists, PartLists}

-- its users, groups, memberships and grants
abbrev pub people_of : TreePart → PeopleLists
people_of part =
    record {
      users = part.users;
      next_group = part.next_group;
      members = part.members;
      grants = part.grants;
    }

-- the rows of its tree, and its lists
abbrev pub lists_of : TreePart → PartLists
lists_of part =
    record {
      pages = rows_of part.tree;
      revisions = part.revisions;
      people = people_of part;
      tasks = part.tasks;
      workflows = part.workflows;
      desk_pairs = part.desk_pairs;
      time = part.time;
      next_page = part.next_page;
      next_revision = part.next_revision;
    }
