-- The pairs of the rows so far, each with a URL that fits.
use Rattle.page_tree.specs.Rows.{child_url}
use Rattle.slug_urls.proofs.Listing.{AreListed}
use Rattle.slug_urls.proofs.plan.list_all.Given as goal

abbrev pub invariant-loop-done : goal.invariant-loop-done
invariant-loop-done l =
    AreListed l.rows.pages l.place l.done l.old (child_url l.above l.slug) l.pairs.items
