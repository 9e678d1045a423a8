-- No desk ends as a membership begins.
use Rattle.std.proofs.Common.{◌≡◌, ℕ, List, Bool, sym, subst}
use Rattle.std.specs.Result.{IfOk}
use Rattle.site_part.specs.Plans.{pages_of}
use Rattle.flow_edits.specs.People.{member_lost}
use Rattle.flow_edits.proofs.joining.ended_by_member.Goals as goal

pub returns-clause-lost : goal.returns-clause-lost
returns-clause-lost c = λ world moment ready.
    subst (λ (on : Bool). IfOk c.lost_by_leaving.result (λ (pages : List ℕ).
    pages ≡ pages_of (member_lost world moment c.args.user c.args.group on))) (sym c.if-on.false)
    (c.lost_by_leaving.ensures.lost world moment ready)
