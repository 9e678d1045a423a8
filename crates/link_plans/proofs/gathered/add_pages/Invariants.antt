-- What is left tells of what is told so far what all tell.
use Rattle.std.proofs.Common.{◌≡◌, ℕ, Bool, drop}
use Rattle.link_plans.specs.Layers.{pages_told}
use Rattle.link_plans.specs.Told.{finds_told, links_told}
use Rattle.link_plans.proofs.gathered.add_pages.Given as goal

abbrev pub invariant-loop-fate : goal.invariant-loop-fate
invariant-loop-fate l =
    (page linked : ℕ) (was : Bool) →
    let finds = finds_told l.edit.rows.now.pages l.edit.shelf.now.revisions l.edit.new.now
    l.edit.fates.now in
    pages_told finds (drop l.fate-index l.edit.fates.now) page linked
    (links_told l.planned.items page linked was)
    ≡ pages_told finds l.edit.fates.now page linked
    (links_told l.initial.planned.items page linked was)
