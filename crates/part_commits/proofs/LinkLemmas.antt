-- The links that were planned are in step once the change is made and they are put in.
use Rattle.std.proofs.Common.{◌≡◌, ℕ, Bool, List, ap, ◌∙◌}
use Rattle.site_types.specs.declared.revision.Revision.{Revision}
use Rattle.page_store.specs.Pages.{Page}
use Rattle.flat_model.specs.declared.change.Change.{Change}
use Rattle.link_index.specs.Pairs.{has_pair}
use Rattle.link_plans.specs.PageLinks.{AreLinked}
use Rattle.link_plans.specs.Told.{AreLinksAfter, links_told, pages_made, revisions_made}

-- pairs with the planned links put in are in step with what the change makes
pub links_put : (pages rows : List Page) (revisions list : List Revision) (change : Change)
    (planned : List (ℕ × List ℕ)) (pairs after : List (ℕ × ℕ)) →
    AreLinked pairs pages revisions → AreLinksAfter pages revisions change planned →
    rows ≡ pages_made change pages → list ≡ revisions_made change revisions →
    ((linked page : ℕ) → has_pair linked page after
    ≡ links_told planned page linked (has_pair linked page pairs)) →
    AreLinked after rows list
links_put pages rows revisions list change planned pairs after are told rows_are list_is there
    linked page =
    rw (rows_are, list_is)
    (there linked page
    ∙ ap (λ (was : Bool). links_told planned page linked was) (are linked page)
    ∙ told page linked)
