-- The slug is put into what the store keeps of the page, and its key takes the place of the old one.
use Rattle.std.proofs.Common.{◌≡◌, ℕ, List, Option, sym, subst}
use Rattle.page_store.specs.declared.kid_index.KidKey.{KidKey}
use Rattle.page_store.specs.KidIndex.{keys_of, with_key, without_key, IsIndex}
use Rattle.page_store.specs.PageRows.{RowList}
use Rattle.page_store.specs.Pages.{Page}
use Rattle.page_store.specs.Kept.{rows_seen, IsKept}
use Rattle.page_store.specs.Changes.{with_slug, MayHaveSlug}
use Rattle.page_store.proofs.SeenLemmas.{rows_seen-kept}
use Rattle.page_store.proofs.SlugLemmas.{has_key, slug_kept}
use Rattle.page_store.proofs.KidIndexLemmas.{without_key-self}
use Rattle.page_store.proofs.rows.Rows.set_slug.Goals as goal

-- what the store keeps then stands for all rows
kept_then : (c : goal.After-add) →
    IsKept c.put_slug.new.stored.entries c.self.inside.order.items c.add.new.self (with_slug
    c.args.id c.args.slug (rows_seen c.self.inside.stored.entries c.self.inside.order.items))
kept_then c =
    let may = subst (λ (v : RowList). MayHaveSlug v.pages c.args.id c.args.slug) (sym
    c.self.view_is) c.requires.may in
    let keys : ℕ → Option KidKey = keys_of c.self.inside.stored.entries in
    let out = c.take.ensures.taken keys c.self.invariant.indexed c.key_of-old.ensures in
    let index = subst (λ (key : KidKey). IsIndex c.add.new.self (with_key c.args.id key (without_key
    c.args.id keys))) c.key_of_kid-new.ensures (c.add.ensures.added (without_key c.args.id keys) out
    (without_key-self c.args.id keys)) in
    slug_kept _ _ _ c.self.inside.kids c.add.new.self _ c.args.id c.args.slug c.key_of-old.result
    c.self.invariant may c.key_of-old.ensures c.put_slug.ensures.others index

pub key_of-old-requires : goal.key_of-old-requires
key_of-old-requires c =
    let may = subst (λ (v : RowList). MayHaveSlug v.pages c.args.id c.args.slug) (sym
    c.self.view_is) c.requires.may in
    has_key _ _ _ _ c.args.id c.self.invariant may.there may.below_root

pub invariant_of-self : goal.invariant_of-self
invariant_of-self c =
    let kept = kept_then c in
    subst (λ (rows : List Page). IsKept c.put_slug.new.stored.entries c.self.inside.order.items
    c.add.new.self rows) (sym (rows_seen-kept _ _ _ _ kept)) kept

pub returns-clause-pages : goal.returns-clause-pages
returns-clause-pages c =
    subst (λ (v : RowList). rows_seen c.put_slug.new.stored.entries c.self.inside.order.items ≡
    with_slug c.args.id c.args.slug v.pages) c.self.view_is (rows_seen-kept _ _ _ _ (kept_then c))
