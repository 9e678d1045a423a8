-- What is left tells of what is told so far what all tell.
use Rattle.std.proofs.Common.{◌≡◌, drop}
use Rattle.link_plans.specs.Told.{body_told}
use Rattle.link_plans.proofs.after.told.Given as goal

abbrev pub invariant-loop-fate : goal.invariant-loop-fate
invariant-loop-fate l =
    body_told (drop l.fate-index l.fates) l.page l.body ≡ body_told l.fates l.page l.fn.was
