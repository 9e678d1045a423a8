-- The ids of the pages on the walk to a page.
use Rattle.std.proofs.Common.{ℕ, List, Option}
use Rattle.page_tree.specs.Tree.{Forest}
use Rattle.site_types.specs.declared.body.Body.{Body}
use Rattle.tree_rows.proofs.Above.{read_to, read_above}

-- the ids of the pages on the walk to a page
abbrev pub ids_to : ℕ → Forest Body → List ℕ
ids_to id f = read_to (λ i (body : Body). i) id f

-- those on the walk to a parent, if there is one
abbrev pub ids_above : Option ℕ → Forest Body → List ℕ
ids_above parent f = read_above (λ i (body : Body). i) parent f
