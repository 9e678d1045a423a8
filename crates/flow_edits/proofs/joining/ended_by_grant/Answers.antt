-- No desk ends as a grant is given.
use Rattle.std.proofs.Common.{◌≡◌, ℕ, List, Bool, sym, subst}
use Rattle.std.specs.Result.{IfOk}
use Rattle.site_part.specs.Plans.{pages_of}
use Rattle.flow_edits.specs.People.{grant_lost}
use Rattle.flow_edits.proofs.joining.ended_by_grant.Goals as goal

pub returns-clause-lost : goal.returns-clause-lost
returns-clause-lost c = λ world moment ready.
    subst (λ (on : Bool). IfOk c.lost_by_withdrawal.result (λ (pages : List ℕ).
    pages ≡ pages_of (grant_lost world moment c.args.group c.args.page c.args.permission on)))
    (sym c.if-on.false) (c.lost_by_withdrawal.ensures.lost world moment ready)
