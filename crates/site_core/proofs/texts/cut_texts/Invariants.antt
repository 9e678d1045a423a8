-- On the pages so far no desk is left, and the others have theirs.
use Rattle.std.proofs.Common.{◌≡◌, ℕ, None, take, nat_eq, if◌then◌else◌}
use Rattle.std.specs.List.{list_any}
use Rattle.site_core.specs.Texts.{kept_on}
use Rattle.site_core.proofs.texts.cut_texts.Given as goal

abbrev pub invariant-loop-number : goal.invariant-loop-number
invariant-loop-number l = (page : ℕ) → kept_on page l.desks.lists
    ≡ (if list_any (λ id. nat_eq id page) (take l.number-index l.shut) then None
    else kept_on page l.initial.desks.lists)
