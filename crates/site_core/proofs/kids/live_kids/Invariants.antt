-- The first of those that are left, after those that are told, come to the first of all.
use Rattle.std.proofs.Common.{◌≡◌}
use Rattle.page_tree.specs.Tree.{Forest}
use Rattle.page_tree.specs.Rows.{rows_of, kids_in}
use Rattle.site_types.specs.declared.body.Body.{Body}
use Rattle.public_view.specs.declared.kid.TheConstants.{MAX_KIDS}
use Rattle.site_core.specs.Kids.{kids_told}
use Rattle.site_core.proofs.FirstLemmas.{AreFirst}
use Rattle.site_core.proofs.kids.live_kids.Given as goal

abbrev pub invariant-loop-kid : goal.invariant-loop-kid
invariant-loop-kid l = (tree : Forest Body) → l.rows.pages ≡ rows_of tree →
    AreFirst MAX_KIDS l.kids.items (kids_told tree l.shelf.revisions l.rows.pages l.kid-iterator)
    (kids_told tree l.shelf.revisions l.rows.pages (kids_in l.fn.page l.rows.pages))
