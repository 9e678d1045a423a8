-- The rows that are kept are the world's.
use Rattle.std.proofs.Common.{ap, ◌∙◌}
use Rattle.std.specs.Option.{option_map}
use Rattle.page_tree.specs.Rows.{row_with}
use Rattle.site_core.proofs.state.Core.url.Goals as goal

pub returns : goal.returns
returns c = λ world ready.
    c.url.ensures
    ∙ ap (λ rows. option_map (λ row. row.url) (row_with c.args.id rows)) ready.stands.tree.pages
