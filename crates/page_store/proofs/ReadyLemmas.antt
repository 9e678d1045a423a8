-- What the store keeps is ready to be settled once all listings are put.
use Rattle.std.proofs.Common.{◌≡◌, ℕ, ◌+◌, ◌-◌, nat_eq, List, Option, take, drop, slice_get, ap, sym, ◌∙◌, subst, arith}
use Rattle.std.specs.Option.{option_map}
use Rattle.std.specs.Map.{lookup}
use Rattle.page_store.specs.declared.stored.StoredRow.{StoredRow}
use Rattle.page_store.specs.declared.kid_index.KidIndex.{KidIndex}
use Rattle.page_store.specs.Pages.{Page, ArePages}
use Rattle.page_store.specs.Kept.{rows_seen, IsKept}
use Rattle.page_store.specs.KidIndex.{keys_of, IsIndex}
use Rattle.page_store.proofs.KidIndexLemmas.{indexed_as}
use Rattle.page_store.proofs.KeyLemmas.{keys-listed}
use Rattle.page_store.specs.Relabelling.{relabelled_rows, first_moved, KeepParents}
use Rattle.page_store.specs.Settling.{items_moved, path_put, url_put, listed_put, settled, IsListed, CanSettle}
use Rattle.page_store.proofs.SeenLemmas.{rows_seen-ids}
use Rattle.page_store.proofs.ListedLemmas.{own_ids_listed}
use Rattle.page_store.proofs.RelabelLemmas.{top_moved, listed, is_listed, can_settle}

-- What is kept may be settled, and the rows are these then.
pub record IsReady (stored : List (ℕ × StoredRow)) (order : List ℕ) (kids : KidIndex) (top :
    Option ℕ) (then : List Page) : Type 0 where
  pub listed_rows : IsListed stored order (rows_seen stored order)
  pub can : CanSettle top (rows_seen stored order)
  pub indexed : IsIndex kids (keys_of stored)
  pub settled_rows : settled (rows_seen stored order) ≡ then

-- rows that are what is seen are ready
ready_rows : (stored : List (ℕ × StoredRow)) (order : List ℕ) (kids : KidIndex) (top :
    Option ℕ) (rows : List Page) → IsListed stored order rows → CanSettle top rows →
    IsIndex kids (keys_of stored) → IsReady stored order kids top (settled rows)
ready_rows stored order kids top rows is can index =
    let same : rows_seen stored order ≡ rows =
    rows_seen-ids stored order rows is.ids is.found (own_ids_listed stored order rows is) in
    record {
      listed_rows = subst (IsListed stored order) (sym same) is;
      can = subst (CanSettle top) (sym same) can;
      indexed = index;
      settled_rows = ap settled same;
    }

module _ (stored later : List (ℕ × StoredRow)) (order moved shown : List ℕ) (kids : KidIndex)
    (pages : List Page) (from n to : ℕ) (paths urls : List (ℕ × List ℕ)) (top : Option ℕ) where
  -- after the rows are moved and all listings put what is kept is ready
  pub ready : IsKept stored order kids (rows_seen stored order) → rows_seen stored order ≡ pages →
      ArePages (relabelled_rows from n to paths urls pages) →
      KeepParents (first_moved from n pages) pages (relabelled_rows from n to paths urls pages) →
      shown ≡ order → top ≡ slice_get (take (from + n - from) (drop from shown)) 0 →
      moved ≡ items_moved from n to order →
      ((q : ℕ) → lookup (nat_eq q) later ≡ option_map (listed_put url_put (lookup (nat_eq q) urls))
      (option_map (listed_put path_put (lookup (nat_eq q) paths)) (lookup (nat_eq q) stored))) →
      IsReady later moved kids top (relabelled_rows from n to paths urls pages)
  ready kept seen are keeps order_is top_is moves puts =
      let kept_pages : IsKept stored order kids pages = subst (IsKept stored order kids) seen kept in
      let size : from + n - from ≡ n = omega arith in
      let first : top ≡ first_moved from n pages =
      top_is ∙ ap (λ (k : ℕ). slice_get (take k (drop from shown)) 0) size
      ∙ ap (λ (xs : List ℕ). slice_get (take n (drop from xs)) 0) order_is
      ∙ top_moved from n order pages kept_pages.ids in
      ready_rows later moved kids top (listed stored order kids pages kept_pages from n to paths urls)
      (subst (λ (ids : List ℕ). IsListed later ids (listed stored order kids pages kept_pages from n to
      paths urls)) (sym moves) (is_listed stored order kids pages kept_pages from n to paths urls are
      later puts))
      (subst (λ (o : Option ℕ). CanSettle o (listed stored order kids pages kept_pages from n to paths
      urls)) (sym first) (can_settle stored order kids pages kept_pages from n to paths urls are keeps))
      (indexed_as _ _ _ (keys_of later) (keys-listed stored later paths urls puts) kept.indexed)
