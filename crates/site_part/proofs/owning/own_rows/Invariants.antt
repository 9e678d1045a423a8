-- The user owns the pages so far.
use Rattle.std.proofs.Common.{◌≡◌, true, nat_eq, take, drop}
use Rattle.std.specs.List.{list_all}
use Rattle.page_store.specs.Pages.{Page}
use Rattle.site_part.proofs.owning.own_rows.Given as goal

abbrev pub invariant-loop-done : goal.invariant-loop-done
invariant-loop-done l =
    list_all (λ (row : Page). nat_eq row.body.owner l.user) (take l.done (drop l.place l.rows.pages))
    ≡ true
