-- The pairs so far have other ids: the page's URL is among those that are left.
use Rattle.std.proofs.Common.{◌≡◌, nat_eq}
use Rattle.std.specs.Prelude.{drop}
use Rattle.std.specs.Map.{lookup}
use Rattle.new_pages.proofs.telling.listed_url.Given as goal

abbrev pub invariant-loop-id : goal.invariant-loop-id
invariant-loop-id l =
    lookup (nat_eq l.page) (drop l.id-index l.urls) ≡ lookup (nat_eq l.page) l.urls
