-- What the store keeps after a page went with all below it.
use Rattle.std.proofs.Common.{◌≡◌, ℕ, ◌+◌, ◌-◌, Bool, true, false, cond, not, nat_eq, List, ◌++◌, Option, Some, None, map, filter, take, drop, refl, ap, sym, ◌∙◌, subst}
use Rattle.std.specs.List.{list_any}
use Rattle.std.specs.Option.{option_map, IfSome}
use Rattle.std.specs.Map.{lookup}
use Rattle.page_tree.specs.Rows.{row_with}
use Rattle.page_store.specs.declared.stored.StoredRow.{StoredRow}
use Rattle.page_store.specs.declared.kid_index.KidIndex.{KidIndex}
use Rattle.page_store.specs.declared.kid_index.KidKey.{KidKey}
use Rattle.page_store.specs.PageRows.{IsRange}
use Rattle.page_store.specs.Pages.{Page}
use Rattle.page_store.specs.Kept.{seen, IsStored, IsKept}
use Rattle.page_store.specs.KidIndex.{own_key, keys_of, IsIndex}
use Rattle.page_store.proofs.KidIndexLemmas.{indexed_as}
use Rattle.page_store.proofs.KeyLemmas.{keys-changed, key_of_row}
use Rattle.page_store.specs.Search.{begins}
use Rattle.page_store.specs.Changes.{without_kid, without_range, kid_taken}
use Rattle.page_store.proofs.AllLemmas.{All-always}
use Rattle.page_store.proofs.ChangeLemmas.{found-changed, texts-changed}
use Rattle.page_store.proofs.CutLemmas.{any-map, map-cond}
use Rattle.page_store.proofs.WithoutLemmas.{are_pages-without, found_stays, without_is, ids_stay, ids_go}
pub use Rattle.page_store.proofs.WithoutLemmas.{EachPair-weaker}

-- A page that goes with all below it: what the store keeps after their keys, their rows and their
-- places are taken out, and the parent's count is lowered, stands for the rows without them.
pub remove_kept : (stored mid later : List (ℕ × StoredRow)) (order xs : List ℕ)
    (kids fewer : KidIndex) (pages : List Page) (id place n : ℕ) (key : KidKey) →
    IsKept stored order kids pages →
    IfSome (row_with id pages) (λ row. IsRange pages row place n) →
    own_key (lookup (nat_eq id) stored) ≡ Some key → xs ≡ order →
    IsIndex fewer (keys_of mid) →
    ((q : ℕ) → lookup (nat_eq q) mid ≡ cond (list_any (λ i. nat_eq i q) (take (place + n - place)
    (drop place xs))) None (lookup (nat_eq q) stored)) →
    ((q : ℕ) → lookup (nat_eq q) later ≡ cond (nat_eq key.parent q) (option_map kid_taken (lookup
    (nat_eq key.parent) mid)) (lookup (nat_eq q) mid)) →
    IsKept later (take place order ++ drop (place + n) order) fewer (without_range id pages)
remove_kept stored mid later order xs kids fewer pages id place n key kept ranged keyed same indexes
    goes lowers = by (lookup (nat_eq id) stored) refl
  where
    by : (o : Option StoredRow) → lookup (nat_eq id) stored ≡ o →
        IsKept later (take place order ++ drop (place + n) order) fewer (without_range id pages)
    by None e = absurd (let h = rw e at keyed in cc)
    by (Some page) e =
        subst (λ (rows : List Page). IsKept later (take place order ++ drop (place + n) order) fewer
        rows) (sym (without_is pages kept.are_pages id p row found below)) (record {
          ids = ids_stay pages kept.are_pages id p row found below place n range order kept.ids;
          found = found-changed mid later stay found_mid p kid_taken without_kid (λ one. refl) (λ r.
              refl) lowers;
          texts = texts-changed mid later stay found_mid p kid_taken without_kid (λ one. refl) (λ r.
              refl) lowers texts_mid (λ one is. record {
                path_is = is.path_is;
                depth_is = is.depth_is;
                not_counted = is.not_counted;
              });
          indexed = indexed_as _ _ _ (keys_of later) (keys-changed mid later p kid_taken lowers (λ one.
              refl)) indexes;
          are_pages = are_pages-without pages kept.are_pages id p row found below;
        })
      where
        -- the row that goes
        row : Page
        row = seen page

        -- its parent
        p : ℕ
        p = key.parent

        found : row_with id pages ≡ Some row
        found = kept.found id ∙ ap (option_map seen) e

        below : row.parent ≡ Some p
        below = (key_of_row _ page key e keyed).0

        range : IsRange pages row place n
        range = rw found at ranged

        stay : List Page
        stay = filter (λ r. not (begins row.path r.path)) pages

        gone : List Page
        gone = filter (λ r. begins row.path r.path) pages

        ids : take (place + n - place) (drop place xs) ≡ map (λ (r : Page). r.id) gone
        ids = ids_go pages kept.are_pages id p row found below place n range order xs kept.ids same

        found_mid : (q : ℕ) → row_with q stay ≡ option_map seen (lookup (nat_eq q) mid)
        found_mid q =
            found_stays pages kept.are_pages id p row found below q
            ∙ ap (λ b. cond b None (row_with q pages)) (sym (any-map (λ i. nat_eq i q) (λ (r : Page).
            r.id) (λ r. nat_eq r.id q) gone (All-always (λ r. nat_eq r.id q ≡ nat_eq r.id q) (λ r.
            refl) gone)) ∙ ap (list_any (λ i. nat_eq i q)) (sym ids))
            ∙ ap (λ o. cond (list_any (λ i. nat_eq i q) (take (place + n - place) (drop place xs)))
            None o) (kept.found q)
            ∙ sym (map-cond seen (list_any (λ i. nat_eq i q) (take (place + n - place) (drop place
            xs))) (lookup (nat_eq q) stored))
            ∙ ap (option_map seen) (sym (goes q))

        texts_mid : (q : ℕ) → IfSome (lookup (nat_eq q) mid) IsStored
        texts_mid q = rw (goes q) (pick (list_any (λ i. nat_eq i q) (take (place + n - place) (drop
            place xs))))
          where
            pick : (t : Bool) → IfSome (cond t None (lookup (nat_eq q) stored)) IsStored
            pick true = tt
            pick false = kept.texts q
