-- What the store keeps when rows are settled.
use Rattle.std.proofs.Common.{◌≡◌, ℕ, ◌+◌, ◌<◌, ◌↔◌, Bool, true, false, cond, nat_eq, List, [], ◌∷◌, Option, Some, None, IsSome, map, filter, length, refl, ap, sym, ◌∙◌, subst, arith}
use Rattle.std.proofs.lemmas.Bool.Decides.{nat_tests}
use Rattle.std.proofs.lemmas.List.{length-map}
use Rattle.std.specs.List.{AllByRecursion}
use Rattle.std.specs.Option.{option_map, option_and_then, IfSome}
use Rattle.std.specs.Map.{lookup}
use Rattle.page_tree.specs.Rows.{is_parent, row_with, kids_in, with_kid}
use Rattle.page_store.specs.declared.stored.StoredRow.{StoredRow}
use Rattle.page_store.specs.declared.kid_index.KidIndex.{KidIndex}
use Rattle.page_store.specs.declared.kid_index.KidKey.{KidKey}
use Rattle.page_store.specs.PageRows.{parent_id}
use Rattle.page_store.specs.Pages.{Page, ArePages}
use Rattle.page_store.specs.Kept.{seen, kid_added, IsStored, IsKept}
use Rattle.page_store.specs.KidIndex.{kid_key, own_key, keys_of, with_key, without_key, IsIndex}
use Rattle.page_store.proofs.KidIndexLemmas.{indexed_as}
use Rattle.page_store.proofs.KeyLemmas.{keys-changed, keys-moved, key_below, key_of_row}
use Rattle.page_store.specs.Changes.{changed, without_kid, kid_taken}
use Rattle.page_store.specs.Relabelling.{reparented, recounted}
use Rattle.page_store.specs.Settling.{settled, under, parent_put, IsListed, CanSettle}
use Rattle.page_store.proofs.AllLemmas.{All-weaker, All-both}
use Rattle.page_store.proofs.SeenLemmas.{All-find, kept_of_ids, few_pages, length-filter-le}
use Rattle.page_store.proofs.ChangeLemmas.{ids-changed, found-changed, texts-changed}
use Rattle.page_store.proofs.SlugLemmas.{same_row}
use Rattle.page_store.proofs.SettleLemmas.{settled_same, settled_is, counted}
use Rattle.page_store.proofs.ListedLemmas.{own_ids_listed, found_listed, rooted_listed}

module _ (stored : List (ℕ × StoredRow)) (order : List ℕ) (rows : List Page)
    (listed : IsListed stored order rows) where
  module _ (kids : KidIndex) (index : IsIndex kids (keys_of stored)) where
    -- where each page has the parent that it is to have nothing changes
    pub settle_same : (top : Option ℕ) → CanSettle top rows →
        AllByRecursion (λ row. top ≡ Some row.id → row.parent ≡ parent_id row.path rows) rows →
        IsKept stored order kids (settled rows)
    settle_same top can own =
        subst (λ (rs : List Page). IsKept stored order kids rs) (sym same) (record {
          ids = listed.ids;
          found = listed.found;
          texts = listed.texts;
          indexed = index;
          are_pages = subst ArePages same listed.are_pages;
        })
      where
        parent : (o : Option ℕ) (row : Page) → ((o ≡ Some row.id → ⊥) → row.parent ≡ parent_id
            row.path rows) → (o ≡ Some row.id → row.parent ≡ parent_id row.path rows) → row.parent ≡
            parent_id row.path rows
        parent None row other same = other (λ h. absurd cc)
        parent (Some n) row other same = by (nat_eq n row.id) refl
          where
            by : (t : Bool) → nat_eq n row.id ≡ t → row.parent ≡ parent_id row.path rows
            by true e = same (ap Some (let is : n ≡ row.id = grind (arith, nat_tests) in is))
            by false e = other (λ h. let is : n ≡ row.id = cc in absurd (grind (arith, nat_tests)))

        same : settled rows ≡ rows
        same = settled_same rows (All-both (λ row. (top ≡ Some row.id → ⊥) → row.parent ≡ parent_id
            row.path rows) (λ row. top ≡ Some row.id → row.parent ≡ parent_id row.path rows) (λ row.
            row.parent ≡ parent_id row.path rows) (parent top) rows can.others own) can.counts

    -- where no page moved
    pub settle_none : CanSettle None rows → IsKept stored order kids (settled rows)
    settle_none can = settle_same None can (none rows)
      where
        none : (rs : List Page) → AllByRecursion (λ row. None ≡ Some row.id → row.parent ≡ parent_id
            row.path rows) rs
        none [] = tt
        none (row ∷ rs) = ((λ h. absurd cc), none rs)

    module _ (top : ℕ) (can : CanSettle (Some top) rows) where
      -- what is kept of each row
      kept_rows : AllByRecursion (λ row. option_map seen (lookup (nat_eq row.id) stored) ≡ Some row)
          rows
      kept_rows = kept_of_ids stored order rows listed.ids listed.found
          (own_ids_listed stored order rows listed)

      -- where the root moved, or no page that is kept
      pub settle_root : own_key (lookup (nat_eq top) stored) ≡ None →
          IsKept stored order kids (settled rows)
      settle_root none =
          settle_same (Some top) can (All-both (λ row. (row.parent ≡ None ↔ row.id ≡ 1) × (option_map
          seen (lookup (nat_eq row.id) stored) ≡ Some row)) (λ row. (row.id ≡ 1 → parent_id row.path
          rows ≡ None) × ((row.id ≡ 1 → ⊥) → IsSome (parent_id row.path rows))) (λ row. Some top ≡ Some
          row.id → row.parent ≡ parent_id row.path rows) by rows (All-both (λ row. row.parent ≡ None ↔
          row.id ≡ 1) (λ row. option_map seen (lookup (nat_eq row.id) stored) ≡ Some row) (λ row.
          (row.parent ≡ None ↔ row.id ≡ 1) × (option_map seen (lookup (nat_eq row.id) stored) ≡ Some
          row)) (λ row a b. (a, b)) rows can.rooted kept_rows) (rooted_listed stored order rows listed))
        where
          no_key : (o : Option StoredRow) (row : Page) → own_key o ≡ None → option_map seen o ≡ Some
              row → row.parent ≡ None
          no_key None row h is = absurd cc
          no_key (Some page) row h is = pick page.parent refl h
            where
              own : seen page ≡ row
              own = cc

              pick : (q : Option ℕ) → page.parent ≡ q →
                  option_map (λ parent. kid_key parent page.row.slug) q ≡ None → row.parent ≡ None
              pick None e h = sym (ap (λ (r : Page). r.parent) own) ∙ e
              pick (Some q) e h = absurd cc

          by : (row : Page) → (row.parent ≡ None ↔ row.id ≡ 1) × (option_map seen (lookup (nat_eq
              row.id) stored) ≡ Some row) → (row.id ≡ 1 → parent_id row.path rows ≡ None) × ((row.id ≡
              1 → ⊥) → IsSome (parent_id row.path rows)) → Some top ≡ Some row.id → row.parent ≡
              parent_id row.path rows
          by row a b same =
              let is : top ≡ row.id = cc in
              let parent = no_key (lookup (nat_eq row.id) stored) row (ap (λ (n : ℕ). own_key (lookup
              (nat_eq n) stored)) (sym is) ∙ none) a.1 in
              parent ∙ sym (b.0 (a.0.0 parent))

      module _ (old : KidKey) (key : own_key (lookup (nat_eq top) stored) ≡ Some old) where
        -- the page that is kept
        page_there : (page : StoredRow) × (lookup (nat_eq top) stored ≡ Some page)
        page_there = by (lookup (nat_eq top) stored) refl key
          where
            by : (o : Option StoredRow) → lookup (nat_eq top) stored ≡ o → own_key o ≡ Some old →
                (page : StoredRow) × (lookup (nat_eq top) stored ≡ Some page)
            by None e h = absurd cc
            by (Some page) e h = (page, e)

        -- its row
        abbrev row : Page
        row = seen page_there.0

        -- it is found
        found_row : row_with top rows ≡ Some row
        found_row = (found_listed stored order rows listed) top page_there.0 (sym page_there.1)

        -- its parent
        below_old : row.parent ≡ Some old.parent
        below_old = (key_of_row (lookup (nat_eq top) stored) page_there.0 old page_there.1 key).0

        -- its key
        key_old : kid_key old.parent row.slug ≡ old
        key_old = (key_of_row (lookup (nat_eq top) stored) page_there.0 old page_there.1 key).1

        -- there is a page above its path
        pub settle_there : IsSome (option_and_then (λ row. parent_id row.path rows) (row_with top rows))
        settle_there =
            subst (λ (o : Option Page). IsSome (option_and_then (λ row. parent_id row.path rows) o))
            (sym found_row) (some (All-find (λ row. (row.id ≡ 1 → parent_id row.path rows ≡ None) ×
            ((row.id ≡ 1 → ⊥) → IsSome (parent_id row.path rows))) (λ (r : Page). nat_eq r.id top)
            rows row (rooted_listed stored order rows listed) found_row))
          where
            some : (row.id ≡ 1 → parent_id row.path rows ≡ None) × ((row.id ≡ 1 → ⊥) → IsSome
                (parent_id row.path rows)) → IsSome (parent_id row.path rows)
            some is = is.1 (λ one. let none = (All-find (λ row. row.parent ≡ None ↔ row.id ≡ 1) (λ (r :
                Page). nat_eq r.id top) rows row can.rooted found_row).1 one in let never : Some
                old.parent ≡ None = sym below_old ∙ none in absurd cc)

        module _ (to : ℕ) (goes : option_and_then (λ row. parent_id row.path rows) (row_with top rows)
            ≡ Some to) where
          -- its new parent is the page above its path
          goes_to : parent_id row.path rows ≡ Some to
          goes_to = sym (ap (option_and_then (λ row. parent_id row.path rows)) found_row) ∙ goes

          -- where that is its old parent nothing changes
          pub settle_stays : to ≡ old.parent → IsKept stored order kids (settled rows)
          settle_stays same =
              settle_same (Some top) can (All-weaker (λ r. nat_eq r.id top ≡ true → r ≡ row) (λ r. Some
              top ≡ Some r.id → r.parent ≡ parent_id r.path rows) (λ r one h. by r (one (test r h))) rows
              (same_row top rows row (own_ids_listed stored order rows listed) found_row))
            where
              test : (r : Page) → Some top ≡ Some r.id → nat_eq r.id top ≡ true
              test r h = let is : top ≡ r.id = cc in grind (arith, nat_tests)

              by : (r : Page) → r ≡ row → r.parent ≡ parent_id r.path rows
              by r is = subst (λ (s : Page). s.parent ≡ parent_id s.path rows) (sym is) (below_old ∙ ap
                  Some (sym same) ∙ sym goes_to)

          module _ (mid less : List (ℕ × StoredRow))
              (puts : (q : ℕ) → lookup (nat_eq q) mid ≡ cond (nat_eq top q) (option_map (parent_put
              to) (lookup (nat_eq top) stored)) (lookup (nat_eq q) stored))
              (takes : (q : ℕ) → lookup (nat_eq q) less ≡ cond (nat_eq old.parent q) (option_map
              kid_taken (lookup (nat_eq old.parent) mid)) (lookup (nat_eq q) mid))
              (differ : old.parent ≡ to → ⊥) where
            -- each page that is kept has room for one child more
            few_listed : (id : ℕ) → IfSome (lookup (nat_eq id) stored) (λ page. page.row.numchild + 1 <
                4294967296)
            few_listed id = by (lookup (nat_eq id) stored) refl
              where
                by : (o : Option StoredRow) → lookup (nat_eq id) stored ≡ o →
                    IfSome o (λ page. page.row.numchild + 1 < 4294967296)
                by None e = tt
                by (Some page) e =
                    let count : page.row.numchild ≡ length (kids_in page.row.id rows) =
                    All-find (λ r. r.numchild ≡ length (kids_in r.id rows)) (λ r. nat_eq r.id id) rows
                    (seen page) can.counts (listed.found id ∙ ap (option_map seen) e) in
                    let same : length (kids_in page.row.id rows) ≡ length (filter (λ (r : Page).
                    is_parent page.row.id r.parent) rows) = length-map _ (λ (r : Page). r.id) in
                    let few = length-filter-le (λ (r : Page). is_parent page.row.id r.parent) rows in
                    let most = few_pages (settled rows) listed.are_pages in
                    let long : length (settled rows) ≡ length rows =
                    length-map _ (recounted (map (reparented rows) rows))
                    ∙ length-map rows (reparented rows) in
                    omega arith

            -- so has the new parent
            pub settle_room : IfSome (lookup (nat_eq to) less) (λ page. page.row.numchild + 1 <
                4294967296)
            settle_room =
                rw (takes to) (other (nat_eq old.parent to) refl (rw (puts to) (mine (nat_eq top to)
                (lookup (nat_eq top) stored) (few_listed top) (few_listed to))))
              where
                mine : (t : Bool) (o : Option StoredRow) → IfSome o (λ page. page.row.numchild + 1 <
                    4294967296) → IfSome (lookup (nat_eq to) stored) (λ page. page.row.numchild + 1 <
                    4294967296) → IfSome (cond t (option_map (parent_put to) o) (lookup (nat_eq to)
                    stored)) (λ page. page.row.numchild + 1 < 4294967296)
                mine true None few more = tt
                mine true (Some page) few more = few
                mine false o few more = more

                other : (t : Bool) → nat_eq old.parent to ≡ t → IfSome (lookup (nat_eq to) mid) (λ
                    page. page.row.numchild + 1 < 4294967296) → IfSome (cond t (option_map kid_taken
                    (lookup (nat_eq old.parent) mid)) (lookup (nat_eq to) mid)) (λ page.
                    page.row.numchild + 1 < 4294967296)
                other true e few = absurd (differ (grind (arith, nat_tests)))
                other false e few = few

            -- a key below the new parent
            abbrev key_under : KidKey → KidKey
            key_under key = record { parent = to; digest = key.digest }

            -- the page's own there
            abbrev pub new_key : KidKey
            new_key = key_under old

            -- A page below another parent: what the store keeps then stands for the settled rows.
            pub settle_kept : (later : List (ℕ × StoredRow)) (more : KidIndex) →
                ((q : ℕ) → lookup (nat_eq q) later ≡ cond (nat_eq to q) (option_map kid_added (lookup
                (nat_eq to) less)) (lookup (nat_eq q) less)) →
                IsIndex more (with_key top new_key (without_key top (keys_of stored))) →
                IsKept later order more (settled rows)
            settle_kept later more adds indexes =
                subst (λ (rs : List Page). IsKept later order more rs) (sym is) (record {
                  ids = ids-changed to with_kid (λ r. refl) _ ∙ ids-changed old.parent without_kid (λ
                      r. refl) _ ∙ ids-changed top (under to) (λ r. refl) rows ∙ listed.ids;
                  found = found-changed less later _ found_less to kid_added with_kid (λ page. refl) (λ
                      r. refl) adds;
                  texts = texts-changed less later _ found_less to kid_added with_kid (λ page. refl) (λ
                      r. refl) adds texts_less (λ page own. record {
                        path_is = own.path_is;
                        depth_is = own.depth_is;
                        not_counted = own.not_counted;
                      });
                  indexed = indexed_as _ _ _ (keys_of later) (λ q. keys-changed less later to kid_added
                      adds (λ page. refl) q ∙ keys-changed mid less old.parent kid_taken takes (λ page.
                      refl) q ∙ keys-moved stored mid top (parent_put to) puts new_key new_is q) indexes;
                  are_pages = subst ArePages is listed.are_pages;
                })
              where
                is : settled rows ≡ counted rows top old.parent to row can
                    (own_ids_listed stored order rows listed) found_row
                    below_old goes_to differ
                is = settled_is rows top old.parent to row can
                    (own_ids_listed stored order rows listed) found_row below_old goes_to
                    differ

                found_mid : (q : ℕ) → row_with q (changed top (under to) rows) ≡ option_map seen (lookup
                    (nat_eq q) mid)
                found_mid = found-changed stored mid rows listed.found top (parent_put to) (under to) (λ
                    page. refl) (λ r. refl) puts

                texts_mid : (q : ℕ) → IfSome (lookup (nat_eq q) mid) IsStored
                texts_mid = texts-changed stored mid rows listed.found top (parent_put to) (under to) (λ
                    page. refl) (λ r. refl) puts listed.texts (λ page own. record {
                      path_is = own.path_is;
                      depth_is = own.depth_is;
                      not_counted = own.not_counted;
                    })

                found_less : (q : ℕ) → row_with q (changed old.parent without_kid (changed top (under to)
                    rows)) ≡ option_map seen (lookup (nat_eq q) less)
                found_less = found-changed mid less (changed top (under to) rows) found_mid old.parent
                    kid_taken without_kid (λ page. refl) (λ r. refl) takes

                texts_less : (q : ℕ) → IfSome (lookup (nat_eq q) less) IsStored
                texts_less = texts-changed mid less (changed top (under to) rows) found_mid old.parent
                    kid_taken without_kid (λ page. refl) (λ r. refl) takes texts_mid (λ page own. record {
                      path_is = own.path_is;
                      depth_is = own.depth_is;
                      not_counted = own.not_counted;
                    })

                new_is : own_key (option_map (parent_put to) (lookup (nat_eq top) stored)) ≡ Some new_key
                new_is = ap (λ o. own_key (option_map (parent_put to) o)) page_there.1 ∙ key_below
                    (parent_put to page_there.0) to refl ∙ ap (λ (k : KidKey). Some (key_under k)) key_old
