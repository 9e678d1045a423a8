-- The kid that is looked up is the one that the rows have.
use Rattle.std.proofs.Common.{◌∙◌, ap}
use Rattle.page_tree.specs.Rows.{kid_named}
use Rattle.page_store.specs.PageRows.{RowList}
use Rattle.page_store.proofs.KidFoundLemmas.{kid_found-named}
use Rattle.page_store.proofs.rows.Rows.by_slug.Goals as goal

pub returns : goal.returns
returns c =
    c.find.ensures ∙ kid_found-named _ _ _ _ c.self.invariant c.args.parent c.args.slug.now
    ∙ ap (λ (v : RowList). kid_named c.args.parent c.args.slug.now v.pages) c.self.view_is
