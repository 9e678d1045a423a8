-- The live page with a URL, as far as it is found in the tree.
use Rattle.std.specs.Prelude.{ℕ, ◌&&◌, List, bytes_eq, find, Option}
use Rattle.std.specs.Option.{option_map}
use Rattle.page_tree.specs.Tree.{Forest}
use Rattle.page_tree.specs.Rows.{rows_of}
use Rattle.site_types.specs.declared.body.Body.{Body}
use Rattle.site_model.specs.Views.{is_live}

-- the page with this URL, where there is one and it is live
abbrev pub live_at : Forest Body → List ℕ → Option ℕ
live_at tree url =
    option_map (λ row. row.id)
    (find (λ row. bytes_eq row.url url && is_live tree row.body) (rows_of tree))
