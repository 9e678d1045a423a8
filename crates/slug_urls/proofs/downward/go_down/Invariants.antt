-- The page so far leads to where the root leads.
use Rattle.slug_urls.proofs.Descents.{LeadsOn}
use Rattle.slug_urls.proofs.downward.go_down.Given as goal

abbrev pub invariant-loop-i : goal.invariant-loop-i
invariant-loop-i l = LeadsOn l.rows.pages l.slugs l.page l.start l.i
