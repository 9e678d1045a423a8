-- What the store keeps after a page got other fields.
use Rattle.std.proofs.Common.{◌≡◌, ℕ, Bool, true, false, cond, nat_eq, List, [], ◌∷◌, IsSome, find, length, refl, ap, sym, ◌∙◌}
use Rattle.std.proofs.lemmas.List.{length-map}
use Rattle.std.specs.Option.{option_map}
use Rattle.std.specs.Str.{bytes_eq}
use Rattle.std.specs.Map.{lookup}
use Rattle.page_tree.specs.Rows.{is_parent, kids_in}
use Rattle.step_path.specs.Path.{IsPath}
use Rattle.site_types.specs.Ids.{IsPageId}
use Rattle.site_types.specs.declared.body.Body.{Body}
use Rattle.page_store.specs.declared.stored.StoredRow.{StoredRow}
use Rattle.page_store.specs.declared.kid_index.KidIndex.{KidIndex}
use Rattle.page_store.specs.PageRows.{above, parent_id}
use Rattle.page_store.specs.Pages.{Page, IsBefore, HasOtherId, HasOtherSlug, IsRootRow, StartsAtRoot, ArePages}
use Rattle.page_store.specs.Kept.{IsKept}
use Rattle.page_store.specs.KidIndex.{keys_of}
use Rattle.page_store.proofs.KidIndexLemmas.{indexed_as}
use Rattle.page_store.proofs.KeyLemmas.{keys-changed}
use Rattle.page_store.specs.Changes.{body_changed, with_body, body_put}
use Rattle.page_store.proofs.AllLemmas.{All-weaker, All-always}
use Rattle.page_store.proofs.ChangeLemmas.{All-changed, EachPair-changed, find-changed, count-changed, id_of_after, ids-changed, found-changed, texts-changed}

module _ (id : ℕ) (body : Body) where
  -- a search that does not look at the fields finds the same page
  same_found : (test : Page → Bool) → ((row : Page) → test (body_changed body row) ≡ test row) →
      (pages : List Page) →
      option_map (λ (r : Page). r.id) (find test (with_body id body pages)) ≡ option_map (λ (r :
      Page). r.id) (find test pages)
  same_found test keeps pages =
      ap (λ o. option_map (λ (r : Page). r.id) o) (find-changed test id (body_changed body) pages
      (All-always (λ row. nat_eq row.id id ≡ true → test (body_changed body row) ≡ test row) (λ row
      e. keeps row) pages))
      ∙ id_of_after id (body_changed body) (λ row. refl) (find test pages)

  -- the root stays the first row
  root_stays : (pages : List Page) → StartsAtRoot pages → StartsAtRoot (with_body id body pages)
  root_stays [] root = root
  root_stays (row ∷ rows) root = (
    by (nat_eq row.id id),
    All-changed (λ later. IsSome later.parent) id (body_changed body) (λ row h. h) rows root.1,
  )
    where
      by : (t : Bool) → IsRootRow (cond t (body_changed body row) row)
      by true = record {
        id_is = root.0.id_is;
        no_parent = root.0.no_parent;
        path_is = root.0.path_is;
        no_slug = root.0.no_slug;
      }
      by false = root.0

  -- they are the rows of a tree again
  are_pages-with_body : (pages : List Page) → ArePages pages → ArePages (with_body id body pages)
  are_pages-with_body pages are = record {
    root = root_stays pages are.root;
    ids_fit = All-changed (λ row. IsPageId row.id) id change (λ row h. h) pages are.ids_fit;
    paths = All-changed (λ row. IsPath row.path) id change (λ row h. h) pages are.paths;
    in_order = EachPair-changed IsBefore id change (λ row later h. h) (λ row later h. h) pages
        are.in_order;
    own_ids = EachPair-changed HasOtherId id change (λ row later h. h) (λ row later h. h) pages
        are.own_ids;
    parents = All-changed (λ row. row.parent ≡ parent_id row.path all) id change (λ row h. h) pages
        (All-weaker (λ row. row.parent ≡ parent_id row.path pages) (λ row. row.parent ≡ parent_id
        row.path all) (λ row is. is ∙ sym (same_found (λ r. bytes_eq r.path (above row.path)) (λ r.
        refl) pages)) pages are.parents);
    counts = All-changed (λ row. row.numchild ≡ length (kids_in row.id all)) id change (λ row h. h)
        pages (All-weaker (λ row. row.numchild ≡ length (kids_in row.id pages)) (λ row. row.numchild
        ≡ length (kids_in row.id all)) (λ row is. is ∙ sym (same_count row.id)) pages are.counts);
    own_slugs = EachPair-changed HasOtherSlug id change (λ row later h. h) (λ row later h. h) pages
        are.own_slugs;
  }
    where
      change : Page → Page
      change row = body_changed body row

      all : List Page
      all = with_body id body pages

      same_count : (q : ℕ) → length (kids_in q all) ≡ length (kids_in q pages)
      same_count q = rw (length-map, length-map) (count-changed (λ row. is_parent q row.parent) id
          change (λ row. refl) pages)

-- A page with other fields: what the store keeps then stands for the rows with them.
pub body_kept : (stored later : List (ℕ × StoredRow)) (order : List ℕ) (kids : KidIndex)
    (pages : List Page) (id : ℕ) (body : Body) → IsKept stored order kids pages →
    ((other : ℕ) → lookup (nat_eq other) later ≡ cond (nat_eq id other) (option_map (body_put body)
    (lookup (nat_eq id) stored)) (lookup (nat_eq other) stored)) →
    IsKept later order kids (with_body id body pages)
body_kept stored later order kids pages id body kept stores = record {
  ids = ids-changed id (body_changed body) (λ row. refl) pages ∙ kept.ids;
  found = found-changed stored later pages kept.found id (body_put body) (body_changed body) (λ page.
      refl) (λ row. refl) stores;
  texts = texts-changed stored later pages kept.found id (body_put body) (body_changed body) (λ page.
      refl) (λ row. refl) stores kept.texts (λ page is. record {
        path_is = is.path_is;
        depth_is = is.depth_is;
        not_counted = is.not_counted;
      });
  indexed = indexed_as _ _ _ (keys_of later) (keys-changed stored later id (body_put body) stores (λ page.
      refl)) kept.indexed;
  are_pages = are_pages-with_body id body pages kept.are_pages;
}
