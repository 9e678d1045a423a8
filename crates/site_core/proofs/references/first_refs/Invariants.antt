-- The first of those that are left, after those so far, come to the first of all.
use Rattle.public_view.specs.declared.refs.TheConstants.{MAX_REFS}
use Rattle.link_index.specs.Pairs.{seconds_of}
use Rattle.site_core.proofs.FirstLemmas.{AreFirst}
use Rattle.site_core.proofs.references.first_refs.Given as goal

abbrev pub invariant-loop-page : goal.invariant-loop-page
invariant-loop-page l =
    AreFirst MAX_REFS l.refs.items l.page-iterator (seconds_of l.fn.id l.links.pairs)
