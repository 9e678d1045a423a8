-- Changes of one store and of the time.
use Rattle.std.specs.Prelude.{ℕ, [], ◌∷◌, None}
use Rattle.site_types.specs.declared.body.Body.{Body}
use Rattle.flat_model.specs.declared.change.Change.{Change}
use Rattle.flat_model.specs.declared.change.TreeChange.{TreeChange}
use Rattle.flat_model.specs.declared.change.TreeChange.TheVariants as trees
use Rattle.flat_model.specs.declared.change.PeopleChange.{PeopleChange}
use Rattle.flat_model.specs.declared.change.PeopleChange.TheVariants as people
use Rattle.flat_model.specs.declared.change.FlowChange.{FlowChange}
use Rattle.flat_model.specs.declared.change.FlowChange.TheVariants as flows

-- no store changes but the rows of pages, and the time and the next ids are these
abbrev pub tree_change : TreeChange → ℕ → ℕ → ℕ → Change
tree_change tree time next_page next_revision =
    record {
      tree = tree;
      bodies = [];
      gone = [];
      purge = None;
      revisions = [];
      people = people.Nothing;
      flows = flows.Nothing;
      time = time;
      next_page = next_page;
      next_revision = next_revision;
    }

-- no store changes but users, groups, memberships and grants, and the time and the next ids are these
abbrev pub people_change : PeopleChange → ℕ → ℕ → ℕ → Change
people_change people time next_page next_revision =
    record (tree_change trees.Nothing time next_page next_revision) { people = people }

-- no store changes but tasks and workflows, and the time and the next ids are these
abbrev pub flow_change : FlowChange → ℕ → ℕ → ℕ → Change
flow_change flow time next_page next_revision =
    record (tree_change trees.Nothing time next_page next_revision) { flows = flow }

-- no store changes but the fields of one page, and the time and the next ids are these
abbrev pub body_change : ℕ → Body → ℕ → ℕ → ℕ → Change
body_change page body time next_page next_revision =
    record (tree_change trees.Nothing time next_page next_revision) {
      bodies = (page, body) ∷ [];
    }
