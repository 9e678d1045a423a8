-- The keys, the rows and the places of the subtree are taken out, and the parent has a child less.
use Rattle.std.proofs.Common.{◌≡◌, ℕ, nat_eq, List, Option, Some, None, IsSome, refl, sym, subst}
use Rattle.std.specs.Map.{lookup}
use Rattle.std.specs.Option.{option_map, IfSome}
use Rattle.page_tree.specs.Rows.{row_with}
use Rattle.page_store.specs.PageRows.{RowList, IsRange}
use Rattle.page_store.specs.Pages.{Page}
use Rattle.page_store.specs.declared.kid_index.KidKey.{KidKey}
use Rattle.page_store.specs.Kept.{rows_seen, IsKept}
use Rattle.page_store.specs.KidIndex.{own_key}
use Rattle.page_store.specs.Changes.{without_range}
use Rattle.page_store.proofs.SeenLemmas.{rows_seen-kept}
use Rattle.page_store.proofs.SlugLemmas.{has_key}
use Rattle.page_store.proofs.RemoveLemmas.{remove_kept}
use Rattle.page_store.proofs.rows.Rows.remove_range.Goals as goal

-- the key whose parent this is
key_with : (o : Option KidKey) (parent : ℕ) → option_map (λ (key : KidKey). key.parent) o ≡ Some parent →
    (key : KidKey) × (o ≡ Some key) × (key.parent ≡ parent)
key_with None parent is = absurd cc
key_with (Some key) parent is = (key, refl, cc)

-- what the store keeps then stands for the rows without the subtree
kept_then : (c : goal.After-cut) →
    IsKept c.take_kid.new.stored.entries c.cut.new.order.items c.take_pages.new.kids
    (without_range c.args.id (rows_seen c.self.inside.stored.entries c.self.inside.order.items))
kept_then c =
    let range = subst (λ (v : RowList). IfSome (row_with c.args.id v.pages) (λ row. IsRange v.pages
    row c.in-Some.place c.in-Some.count)) (sym c.self.view_is) c.in-Some.ensures.range in
    let keyed = key_with (own_key (lookup (nat_eq c.args.id) c.self.inside.stored.entries))
    c.parent_in-parent.result c.parent_in-parent.ensures in
    rw c.cut.ensures.items (remove_kept _ _ _ _ _ _ _ _ c.args.id c.in-Some.place c.in-Some.count
    keyed.0 c.self.invariant range keyed.1 c.deref.ensures.value
    c.take_pages.ensures.indexed c.take_pages.ensures.rows (λ q. rw keyed.2 (c.take_kid.ensures.others q)))

pub parent_in-parent-requires : goal.parent_in-parent-requires
parent_in-parent-requires c =
    let there = subst (λ (v : RowList). IsSome (row_with c.args.id v.pages)) (sym c.self.view_is)
    c.requires.there in
    has_key _ _ _ _ c.args.id c.self.invariant there c.requires.below_root

pub invariant_of-self : goal.invariant_of-self
invariant_of-self c =
    let kept = kept_then c in
    subst (λ (rows : List Page). IsKept c.take_kid.new.stored.entries c.cut.new.order.items
    c.take_pages.new.kids rows) (sym (rows_seen-kept _ _ _ _ kept)) kept

pub returns-clause-pages : goal.returns-clause-pages
returns-clause-pages c =
    subst (λ (v : RowList). rows_seen c.take_kid.new.stored.entries c.cut.new.order.items ≡
    without_range c.args.id v.pages) c.self.view_is (rows_seen-kept _ _ _ _ (kept_then c))
