-- The world of a new site: the root alone, and user 1, a superuser.
use Rattle.std.specs.Prelude.{ℕ, true, List, [], ◌∷◌}
use Rattle.page_tree.specs.Tree.{Forest, bare, grown}
use Rattle.site_types.specs.RootBody.{root_body}
use Rattle.site_types.specs.declared.body.Body.{Body}
use Rattle.site_model.specs.World.{World, TreePart}

-- a tree that is its root alone: page 1 at step 1, with an empty slug
abbrev pub root_alone : Forest Body
root_alone = grown 1 1 [] root_body bare bare

-- the tree part of a new site, whose first user's token has this digest
abbrev pub new_part : List ℕ → TreePart
new_part digest =
    record {
      time = 0;
      next_page = 2;
      next_revision = 1;
      next_user = 2;
      next_group = 1;
      next_task = 1;
      next_workflow = 1;
      users = record { superuser = true; digest = digest } ∷ [];
      tasks = [];
      workflows = [];
      members = [];
      grants = [];
      tree = root_alone;
      revisions = [];
      desk_pairs = [];
    }

-- the world of a new site
abbrev pub new_world : List ℕ → World
new_world digest = record { part = new_part digest; desks = [] }
