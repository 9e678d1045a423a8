-- Which row of a tree a row of the program is.
use Rattle.std.specs.Prelude.{ℕ, List, [], ◌∷◌}
use Rattle.page_tree.specs.declared.listing.PageRow.{PageRow}
use Rattle.page_tree.specs.Tree.{Forest, bare, grown}
use Rattle.page_tree.specs.Rows.{Row}

-- the row that a row of the program is
abbrev pub row_of : PageRow → Row ℕ
row_of row = record {
  id = row.id;
  parent = row.parent;
  path = row.path.items;
  url = row.url.items;
  slug = row.slug.items;
  numchild = row.numchild;
  body = row.body;
}

-- the ids of siblings, in order
abbrev pub sibling_ids : {Body : Type 0} → Forest Body → List ℕ
sibling_ids bare = []
sibling_ids (grown i step slug body kids rest) = i ∷ sibling_ids rest
