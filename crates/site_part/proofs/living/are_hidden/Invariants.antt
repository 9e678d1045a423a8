-- The pages so far are not live.
use Rattle.std.proofs.Common.{◌≡◌, true, not, take, drop}
use Rattle.std.specs.List.{list_all}
use Rattle.page_store.specs.Pages.{Page}
use Rattle.site_part.specs.Live.{is_live_in}
use Rattle.site_part.proofs.living.are_hidden.Given as goal

abbrev pub invariant-loop-done : goal.invariant-loop-done
invariant-loop-done l =
    list_all (λ (row : Page). not (is_live_in l.rows.pages row.body))
    (take l.done (drop l.place l.rows.pages))
    ≡ true
