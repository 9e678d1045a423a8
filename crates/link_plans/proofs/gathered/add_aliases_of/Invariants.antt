-- What is left tells of what is told so far what all tell.
use Rattle.std.proofs.Common.{◌≡◌, ℕ, Bool, drop}
use Rattle.link_plans.specs.PageLinks.{live_links}
use Rattle.link_plans.specs.Told.{finds_told, links_told}
use Rattle.link_plans.proofs.GatheredLemmas.{ones_told}
use Rattle.link_plans.proofs.gathered.add_aliases_of.Given as goal

abbrev pub invariant-loop-number : goal.invariant-loop-number
invariant-loop-number l =
    (page linked : ℕ) (was : Bool) →
    let value = live_links (finds_told l.edit.rows.now.pages l.edit.shelf.now.revisions
    l.edit.new.now l.edit.fates.now) l.fate.body linked in
    ones_told value (drop l.number-index l.number-items) page (links_told l.planned.items page linked was)
    ≡ ones_told value l.number-items page (links_told l.initial.planned.items page linked was)
