-- All listings are put, and then the rows are settled.
use Rattle.std.proofs.Common.{◌∙◌, List, ap, sym, subst}
use Rattle.page_store.specs.PageRows.{RowList}
use Rattle.page_store.specs.Pages.{Page}
use Rattle.page_store.specs.Kept.{IsKept}
use Rattle.page_store.specs.Relabelling.{relabelled_rows}
use Rattle.page_store.proofs.SeenLemmas.{rows_seen-kept}
use Rattle.page_store.proofs.ReadyLemmas.{IsReady, ready}
use Rattle.page_store.proofs.rows.Rows.relabel.Goals as goal

-- what is kept before it is settled
ready_before : (g : _) (c : goal.After-deref-2 g) →
    IsReady c.put_listed.new.stored.entries c.deref-2.result.now c.self.inside.kids
    c.id_at-top.result (relabelled_rows c.args.from c.args.n c.args.to c.args.rows.now c.args.urls
    c.args.self.now.pages)
ready_before g c =
    ready _ _ _ _ _ _ _ c.args.from c.args.n c.args.to _ _ _ c.self.invariant (ap (λ (v : RowList).
    v.pages) c.self.view_is) c.requires.are_pages c.requires.parents c.deref.ensures.value
    c.id_at-top.ensures (c.deref-2.ensures.value ∙ c.move_items.ensures.items)
    c.put_listed.ensures.rows

pub put_listed-requires-clause-texts : goal.put_listed-requires-clause-texts
put_listed-requires-clause-texts g c = c.self.invariant.texts

pub settle-requires-clause-listed : goal.settle-requires-clause-listed
settle-requires-clause-listed g c = (ready_before g c).listed_rows

pub settle-requires-clause-can : goal.settle-requires-clause-can
settle-requires-clause-can g c = (ready_before g c).can

pub settle-requires-clause-indexed : goal.settle-requires-clause-indexed
settle-requires-clause-indexed g c = (ready_before g c).indexed

-- the same, told after it is settled
ready_then : (g : _) (c : goal.After-settle g) →
    IsReady c.put_listed.new.stored.entries c.deref-2.result.now c.self.inside.kids
    c.id_at-top.result (relabelled_rows c.args.from c.args.n c.args.to c.args.rows.now c.args.urls
    c.args.self.now.pages)
ready_then g c =
    ready _ _ _ _ _ _ _ c.args.from c.args.n c.args.to _ _ _ c.self.invariant (ap (λ (v : RowList).
    v.pages) c.self.view_is) c.requires.are_pages c.requires.parents c.deref.ensures.value
    c.id_at-top.ensures (c.deref-2.ensures.value ∙ c.move_items.ensures.items)
    c.put_listed.ensures.rows

-- what the store keeps then stands for the rows as they are to be
kept_then : (g : _) (c : goal.After-settle g) →
    IsKept c.settle.new.stored.entries c.move_items.new.order.items c.settle.new.kids
    (relabelled_rows c.args.from c.args.n c.args.to c.args.rows.now c.args.urls
    c.args.self.now.pages)
kept_then g c =
    subst (λ (ids : List _). IsKept c.settle.new.stored.entries ids c.settle.new.kids
    (relabelled_rows c.args.from c.args.n c.args.to c.args.rows.now c.args.urls
    c.args.self.now.pages)) c.deref-2.ensures.value (subst (λ (rows : List Page). IsKept
    c.settle.new.stored.entries c.deref-2.result.now c.settle.new.kids rows) (ready_then g
    c).settled_rows c.settle.ensures.kept)

pub invariant_of-self : goal.invariant_of-self
invariant_of-self g c =
    let kept = kept_then g c in
    subst (λ (rows : List Page). IsKept c.settle.new.stored.entries c.move_items.new.order.items
    c.settle.new.kids rows) (sym (rows_seen-kept _ _ _ _ kept)) kept

pub returns-clause-pages : goal.returns-clause-pages
returns-clause-pages g c = rows_seen-kept _ _ _ _ (kept_then g c)
