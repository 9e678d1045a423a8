use Rattle.site_types.specs.Equal.{block_eq_decides}
use Rattle.site_types.specs.declared.block.Block.TheVariants.{Items}
use Rattle.site_types.proofs.block.BlockPartialEq.eq.Goals as goal

pub returns-in-Items-Items-clause-same : goal.returns-in-Items-Items-clause-same
returns-in-Items-Items-clause-same c =
    rw (c.in-Items-Items.is-0, c.in-Items-Items.is-1, c.eq-in-Items-Items.ensures)
    (block_eq_decides (Items c.in-Items-Items.texts) (Items c.in-Items-Items.others))
