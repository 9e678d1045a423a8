-- The fields are put into what the store keeps of the page.
use Rattle.std.proofs.Common.{◌≡◌, List, sym, subst}
use Rattle.page_store.specs.PageRows.{RowList}
use Rattle.page_store.specs.Pages.{Page}
use Rattle.page_store.specs.Kept.{rows_seen, IsKept}
use Rattle.page_store.specs.Changes.{with_body}
use Rattle.page_store.proofs.SeenLemmas.{rows_seen-kept}
use Rattle.page_store.proofs.BodyLemmas.{body_kept}
use Rattle.page_store.proofs.rows.Rows.set_body.Goals as goal

pub invariant_of-self : goal.invariant_of-self
invariant_of-self c =
    let kept = body_kept _ _ _ _ _ c.args.id c.args.body c.self.invariant c.put_body.ensures.others in
    subst (λ (rows : List Page). IsKept c.put_body.new.stored.entries c.self.inside.order.items
    c.self.inside.kids rows) (sym (rows_seen-kept _ _ _ _ kept)) kept

pub returns-clause-pages : goal.returns-clause-pages
returns-clause-pages c =
    let kept = body_kept _ _ _ _ _ c.args.id c.args.body c.self.invariant c.put_body.ensures.others in
    subst (λ (v : RowList). rows_seen c.put_body.new.stored.entries c.self.inside.order.items ≡
    with_body c.args.id c.args.body v.pages) c.self.view_is (rows_seen-kept _ _ _ _ kept)
