-- That a command's pages are there: its first two rules do not refuse it.
use Rattle.std.specs.Prelude.{◌≡◌, None}
use Rattle.page_tree.specs.Tree.{Forest}
use Rattle.site_types.specs.declared.body.Body.{Body}
use Rattle.site_types.specs.declared.command.Command.{Command}
use Rattle.site_model.specs.Rules.{no_pages, are_root}
use Rattle.site_model.specs.Front.{row_of}

-- The pages that a command names are there, and none of them is the root where it may not be.
pub record NamesPages (tree : Forest Body) (command : Command) : Type 0 where
  pub there : no_pages tree (row_of command).named ≡ None
  pub below_root : are_root (row_of command).below_root ≡ None
