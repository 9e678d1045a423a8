-- What the store keeps after a page got another slug.
use Rattle.std.proofs.Common.{◌≡◌, ℕ, cond, nat_eq, List, Option, Some, None, IsSome, refl, ap, ◌∙◌, subst, rules}
use Rattle.std.specs.Option.{option_map}
use Rattle.std.specs.Map.{lookup}
use Rattle.page_tree.specs.Rows.{row_with}
use Rattle.page_store.specs.declared.stored.StoredRow.{StoredRow}
use Rattle.page_store.specs.declared.kid_index.KidIndex.{KidIndex}
use Rattle.page_store.specs.declared.kid_index.KidKey.{KidKey}
use Rattle.page_store.specs.Pages.{Page}
use Rattle.page_store.specs.Kept.{seen, IsKept}
use Rattle.page_store.specs.KidIndex.{kid_key, own_key, keys_of, with_key, without_key, IsIndex}
use Rattle.page_store.proofs.KidIndexLemmas.{indexed_as}
use Rattle.page_store.proofs.KeyLemmas.{keys-moved, key_below}
pub use Rattle.page_store.proofs.KeyLemmas.{key_of_row}
use Rattle.page_store.specs.Changes.{slug_changed, with_slug, MayHaveSlug, slug_put}
use Rattle.page_store.proofs.ChangeLemmas.{ids-changed, found-changed, texts-changed}
use Rattle.page_store.proofs.SlugRows.{are_pages-with_slug}
pub use Rattle.page_store.proofs.SlugRows.{kid_passes, kid_fails, others_differ, same_row}
pub use Rattle.page_store.proofs.SlugRows.{find-changed_one, parent_there}

-- a page that may get a slug has a key
pub has_key : (stored : List (ℕ × StoredRow)) (order : List ℕ) (kids : KidIndex)
    (pages : List Page) (id : ℕ) → IsKept stored order kids pages →
    IsSome (row_with id pages) → (id ≡ 1 → ⊥) → IsSome (own_key (lookup (nat_eq id) stored))
has_key stored order kids pages id kept there other =
    by (lookup (nat_eq id) stored) refl
  where
    key : (page : StoredRow) (q : Option ℕ) → page.parent ≡ q → IsSome q →
        IsSome (own_key (Some page))
    key page None e some = absurd (search rules)
    key page (Some parent) e some = rw e (search rules)

    by : (o : Option StoredRow) → lookup (nat_eq id) stored ≡ o → IsSome (own_key o)
    by None e =
        let none : row_with id pages ≡ None = kept.found id ∙ ap (option_map seen) e in
        absurd (let h = subst IsSome none there in search rules)
    by (Some page) e =
        let found : row_with id pages ≡ Some (seen page) = kept.found id ∙ ap (option_map seen) e in
        key page page.parent refl (parent_there id pages (seen page) kept.are_pages.root found other)

-- A page with another slug: what the store keeps then, with the key of the old slug taken out and
-- that of the new one put in, stands for the rows with it.
pub slug_kept : (stored later : List (ℕ × StoredRow)) (order : List ℕ) (kids more : KidIndex) (pages :
    List Page) (id : ℕ) (slug : List ℕ) (old : KidKey) →
    IsKept stored order kids pages → MayHaveSlug pages id slug →
    own_key (lookup (nat_eq id) stored) ≡ Some old →
    ((other : ℕ) → lookup (nat_eq other) later ≡ cond (nat_eq id other) (option_map (slug_put slug)
    (lookup (nat_eq id) stored)) (lookup (nat_eq other) stored)) →
    IsIndex more (with_key id (kid_key old.parent slug) (without_key id (keys_of stored))) →
    IsKept later order more (with_slug id slug pages)
slug_kept stored later order kids more pages id slug old kept may key stores indexes =
    by (lookup (nat_eq id) stored) refl
  where
    by : (o : Option StoredRow) → lookup (nat_eq id) stored ≡ o →
        IsKept later order more (with_slug id slug pages)
    by None e = absurd (let h = rw e at key in cc)
    by (Some page) e =
        let found : row_with id pages ≡ Some (seen page) = kept.found id ∙ ap (option_map seen) e in
        let is = key_of_row _ page old e key in
        let free = rw (found, is.0) at may.free in
        record {
          ids = ids-changed id (slug_changed slug) (λ r. refl) pages ∙ kept.ids;
          found = found-changed stored later pages kept.found id (slug_put slug) (slug_changed slug) (λ p.
              refl) (λ r. refl) stores;
          texts = texts-changed stored later pages kept.found id (slug_put slug) (slug_changed slug) (λ p.
              refl) (λ r. refl) stores kept.texts (λ p own. record {
                path_is = own.path_is;
                depth_is = own.depth_is;
                not_counted = own.not_counted;
              });
          indexed = indexed_as _ _ _ (keys_of later) (keys-moved stored later id (slug_put slug) stores
              (kid_key old.parent slug) (ap (λ o. own_key (option_map (slug_put slug) o)) e ∙ key_below
              (slug_put slug page) old.parent is.0)) indexes;
          are_pages = are_pages-with_slug pages kept.are_pages id old.parent slug (seen page) found
              is.0 free may.below_root;
        }
