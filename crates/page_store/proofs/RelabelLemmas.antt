-- What the store keeps after rows were moved and the listed paths and URLs were put.
use Rattle.std.proofs.Common.{◌≡◌, ℕ, ◌↔◌, true, false, nat_eq, List, [], ◌∷◌, Option, Some, None, IsSome, map, length, take, drop, slice_get, unwrap_or, refl, ap, sym, ◌∙◌, subst, arith, rules}
use Rattle.std.proofs.lemmas.Bool.Decides.{nat_tests}
use Rattle.std.proofs.lemmas.List.{length-map}
use Rattle.std.proofs.lemmas.Option.{slice_get-map}
use Rattle.std.specs.List.{AllByRecursion, take-map, drop-map}
use Rattle.std.specs.Option.{option_map, IfSome}
use Rattle.std.specs.Map.{lookup}
use Rattle.page_tree.specs.Rows.{is_parent, row_with, kids_in}
use Rattle.step_path.specs.Path.{IsPath, steps_of}
use Rattle.step_path.proofs.PathLemmas.{steps_of-path_text, IsPathText-path_text}
use Rattle.page_store.specs.declared.stored.StoredRow.{StoredRow}
use Rattle.page_store.specs.declared.kid_index.KidIndex.{KidIndex}
use Rattle.page_store.specs.PageRows.{parent_id}
use Rattle.page_store.specs.Pages.{Page, EachPair, HasOtherId, HasOtherSlug, StartsAtRoot, ArePages}
use Rattle.page_store.specs.Kept.{seen, IsStored, IsKept}
use Rattle.page_store.specs.Relabelling.{range_moved, relisted, reparented, recounted, first_moved, KeepParents}
use Rattle.page_store.specs.Settling.{items_moved, path_put, url_put, listed_put, settled, IsListed, CanSettle}
use Rattle.page_store.proofs.AllLemmas.{All-weaker, All-both, All-map}
use Rattle.page_store.proofs.SeenLemmas.{All-find, found_by_own_id}
use Rattle.page_store.proofs.KeptLemmas.{found_passes, own_id}
use Rattle.page_store.proofs.SlugLemmas.{others_differ}
use Rattle.page_store.proofs.RemoveLemmas.{EachPair-weaker}
use Rattle.page_store.proofs.MapLemmas.{All-unmap, find-map, count-map}
use Rattle.page_store.proofs.MovedLemmas.{All-moved, map-moved, passing-moved, find-moved, at_most_one}

-- the root alone has no parent
rooted_pages : (pages : List Page) → StartsAtRoot pages → EachPair HasOtherId pages →
    AllByRecursion (λ row. row.parent ≡ None ↔ row.id ≡ 1) pages
rooted_pages [] root own = tt
rooted_pages (first ∷ pages) root own = (
  ((λ h. root.0.id_is), (λ h. root.0.no_parent)),
  All-both (λ row. IsSome row.parent) (HasOtherId first) (λ row. row.parent ≡ None ↔ row.id ≡ 1) (λ
      row some apart. (
        (λ none. absurd (some_not_none row.parent some none)),
        (λ one. absurd (apart
            (one ∙ sym root.0.id_is))),
      )) pages root.1 own.0,
)
  where
    some_not_none : (o : Option ℕ) → IsSome o → o ≡ None → ⊥
    some_not_none o some none = let h = subst IsSome none some in search rules

-- the page at the top of those that are moved, by the order
pub top_moved : (from n : ℕ) (order : List ℕ) (pages : List Page) → map (λ row. row.id) pages ≡ order →
    slice_get (take n (drop from order)) 0 ≡ first_moved from n pages
top_moved from n order pages ids =
    ap (λ xs. slice_get (take n (drop from xs)) 0) (sym ids)
    ∙ ap (λ xs. slice_get (take n xs) 0) (drop-map (λ (row : Page). row.id) from pages)
    ∙ ap (λ xs. slice_get xs 0) (take-map (λ (row : Page). row.id) n (drop from pages))
    ∙ slice_get-map (λ (row : Page). row.id) (take n (drop from pages)) 0

module _ (stored : List (ℕ × StoredRow)) (order : List ℕ) (kids : KidIndex) (pages : List Page)
    (kept : IsKept stored order kids pages) (from n to : ℕ)
    (paths urls : List (ℕ × List ℕ)) where
  -- the rows with the listed paths and URLs, moved
  abbrev pub listed : List Page
  listed = map (relisted paths urls) (range_moved from n to pages)

  -- a row is found by its id as before
  found_moved : (q : ℕ) → row_with q listed ≡ option_map (relisted paths urls) (row_with q pages)
  found_moved q =
      find-map (λ (r : Page). nat_eq r.id q) (relisted paths urls) (range_moved from n to pages)
      ∙ ap (option_map (relisted paths urls)) (find-moved (λ (r : Page). nat_eq r.id q) from n to pages
      (at_most_one (λ (r : Page). nat_eq r.id q) pages (EachPair-weaker HasOtherId (λ one later. nat_eq
      one.id q ≡ true → nat_eq later.id q ≡ true → ⊥) (λ one later differ e f. differ (grind (
        arith,
        nat_tests,
      ))) pages kept.are_pages.own_ids)))

  -- what holds of each row with its listings holds of each listed row
  All-listed : (P : Page → Type 0) → AllByRecursion (λ row. P (relisted paths urls row)) pages →
      AllByRecursion P listed
  All-listed P all =
      All-map P (relisted paths urls) (range_moved from n to pages) (All-moved (λ row. P (relisted paths
      urls row)) from n to pages all)

  -- the ids in their order
  ids_listed : map (λ row. row.id) listed ≡ items_moved from n to order
  ids_listed = same_ids (range_moved from n to pages) ∙ map-moved (λ (row : Page). row.id) from n to
      pages ∙ ap (items_moved from n to) kept.ids
    where
      same_ids : (rows : List Page) → map (λ (row : Page). row.id) (map (relisted paths urls) rows) ≡
          map (λ (row : Page). row.id) rows
      same_ids [] = refl
      same_ids (row ∷ rows) = ap (λ ids. row.id ∷ ids) (same_ids rows)

  -- the kids of a page are as many as before
  count_listed : (q : ℕ) → length (kids_in q listed) ≡ length (kids_in q pages)
  count_listed q =
      length-map _ (λ (r : Page). r.id)
      ∙ count-map (λ (r : Page). is_parent q r.parent) (relisted paths urls) (range_moved from n to pages)
      ∙ passing-moved (λ (r : Page). is_parent q r.parent) from n to pages
      ∙ sym (length-map _ (λ (r : Page). r.id))

  module _ (are : ArePages (settled listed)) where
    -- what is listed for a page is a path
    path_listed : (q : ℕ) (row : Page) → row_with q pages ≡ Some row →
        IsPath (unwrap_or (lookup (nat_eq row.id) paths) row.path)
    path_listed q row found =
        All-find (λ r. IsPath r.path) (λ r. nat_eq r.id q) listed (relisted paths urls row) (All-unmap (λ
        r. IsPath r.path) (reparented listed) listed (All-unmap (λ r. IsPath r.path) (recounted (map
        (reparented listed) listed)) (map (reparented listed) listed) are.paths)) (found_moved q ∙ ap
        (option_map (relisted paths urls)) found)

    module _ (later : List (ℕ × StoredRow))
        (later_is : (q : ℕ) → lookup (nat_eq q) later ≡ option_map (listed_put url_put (lookup (nat_eq q)
        urls)) (option_map (listed_put path_put (lookup (nat_eq q) paths)) (lookup (nat_eq q) stored)))
      where
        -- what is kept of a page is seen with its listings
        seen_put : (page : StoredRow) (path url : Option (List ℕ)) →
            IsPath (unwrap_or path (steps_of page.row.path)) →
            seen (listed_put url_put url (listed_put path_put path page)) ≡ (let row = seen page in record
            row { path = unwrap_or path row.path; url = unwrap_or url row.url })
        seen_put page None None is = refl
        seen_put page None (Some url) is = refl
        seen_put page (Some path) None is =
            ap (λ (steps : List ℕ). (let row = seen page in let out : Page = record row { path = steps } in
            out)) (steps_of-path_text path is.steps)
        seen_put page (Some path) (Some url) is =
            ap (λ (steps : List ℕ). (let row = seen page in let out : Page = record row {
              path = steps;
              url
                  = url;
            } in out)) (steps_of-path_text path is.steps)

        -- its text is that of a path
        stored_put : (page : StoredRow) (path url : Option (List ℕ)) →
            IsPath (unwrap_or path (steps_of page.row.path)) → IsStored page →
            IsStored (listed_put url_put url (listed_put path_put path page))
        stored_put page None None is own = own
        stored_put page None (Some url) is own = record {
          path_is = own.path_is;
          depth_is = own.depth_is;
          not_counted = own.not_counted;
        }
        stored_put page (Some path) None is own = record {
          path_is = IsPathText-path_text path is;
          depth_is = ap length (sym (steps_of-path_text path is.steps));
          not_counted = own.not_counted;
        }
        stored_put page (Some path) (Some url) is own = record {
          path_is = IsPathText-path_text path is;
          depth_is = ap length (sym (steps_of-path_text path is.steps));
          not_counted = own.not_counted;
        }

        -- the path of a page that is kept
        path_kept : (q : ℕ) (page : StoredRow) → lookup (nat_eq q) stored ≡ Some page →
            IsPath (unwrap_or (lookup (nat_eq q) paths) (steps_of page.row.path))
        path_kept q page is =
            subst (λ (id : ℕ). IsPath (unwrap_or (lookup (nat_eq id) paths) (steps_of page.row.path)))
            (own_id stored order kids pages kept q page is) (path_listed q (seen page) (kept.found q ∙ ap
            (option_map seen) is))

        -- each listed row is found by its id
        found_later : (q : ℕ) → row_with q listed ≡ option_map seen (lookup (nat_eq q) later)
        found_later q =
            found_moved q ∙ ap (option_map (relisted paths urls)) (kept.found q)
            ∙ by (lookup (nat_eq q) stored) refl ∙ ap (option_map seen) (sym (later_is q))
          where
            by : (o : Option StoredRow) → lookup (nat_eq q) stored ≡ o →
                option_map (relisted paths urls) (option_map seen o) ≡ option_map seen (option_map
                (listed_put url_put (lookup (nat_eq q) urls)) (option_map (listed_put path_put (lookup
                (nat_eq q) paths)) o))
            by None e = refl
            by (Some page) e =
                ap (λ (id : ℕ). (let row = seen page in let out : Page = record row {
                  path = unwrap_or
                      (lookup (nat_eq id) paths) row.path;
                  url = unwrap_or (lookup (nat_eq id) urls) row.url;
                } in
                Some out)) (own_id stored order kids pages kept q page e)
                ∙ ap Some (sym (seen_put page (lookup (nat_eq q) paths) (lookup (nat_eq q) urls) (path_kept
                q page e)))

        -- each row that is kept has the text of a path
        texts_later : (q : ℕ) → IfSome (lookup (nat_eq q) later) IsStored
        texts_later q = rw (later_is q) (by (lookup (nat_eq q) stored) refl (kept.texts q))
          where
            by : (o : Option StoredRow) → lookup (nat_eq q) stored ≡ o → IfSome o IsStored →
                IfSome (option_map (listed_put url_put (lookup (nat_eq q) urls)) (option_map (listed_put
                path_put (lookup (nat_eq q) paths)) o)) IsStored
            by None e own = tt
            by (Some page) e own = stored_put page (lookup (nat_eq q) paths) (lookup (nat_eq q) urls)
                (path_kept q page e) own

        -- what is kept stands for the listed rows
        pub is_listed : IsListed later (items_moved from n to order) listed
        is_listed = record {
          ids = ids_listed;
          found = found_later;
          texts = texts_later;
          are_pages = are;
        }

    -- the listed rows may be settled
    pub can_settle : KeepParents (first_moved from n pages) pages (settled listed) →
        CanSettle (first_moved from n pages) listed
    can_settle keeps = record {
      rooted = All-listed (λ row. row.parent ≡ None ↔ row.id ≡ 1) (rooted_pages pages
          kept.are_pages.root kept.are_pages.own_ids);
      others = All-both (λ row. option_map (λ (old : Page). old.parent) (row_with row.id pages) ≡ Some
          row.parent) (λ row. (first_moved from n pages ≡ Some row.id → ⊥) → option_map (λ (old : Page).
          old.parent) (row_with row.id pages) ≡ Some (parent_id row.path listed)) (λ row. (first_moved
          from n pages ≡ Some row.id → ⊥) → row.parent ≡ parent_id row.path listed) (λ row is stays
          other. one_parent row.parent (parent_id row.path listed) (sym is ∙ stays other)) listed
          (All-listed (λ row. option_map (λ (old : Page). old.parent) (row_with row.id pages) ≡ Some
          row.parent) (All-weaker (λ row. row_with row.id pages ≡ Some row) (λ row. option_map (λ (old :
          Page). old.parent) (row_with row.id pages) ≡ Some row.parent) (λ row h. ap (option_map (λ (old :
          Page). old.parent)) h) pages (found_by_own_id pages kept.are_pages.own_ids)))
          (All-unmap (λ row. (first_moved from n pages ≡ Some row.id → ⊥) → option_map (λ (old : Page).
          old.parent) (row_with row.id pages) ≡ Some row.parent) (reparented listed) listed (All-unmap (λ
          row. (first_moved from n pages ≡ Some row.id → ⊥) → option_map (λ (old : Page). old.parent)
          (row_with row.id pages) ≡ Some row.parent) (recounted (map (reparented listed) listed)) (map
          (reparented listed) listed) keeps));
      counts = All-listed (λ row. row.numchild ≡ length (kids_in row.id listed)) (All-weaker (λ row.
          row.numchild ≡ length (kids_in row.id pages)) (λ row. row.numchild ≡ length (kids_in row.id
          listed)) (λ row is. is ∙ sym (count_listed row.id)) pages kept.are_pages.counts);
      apart = λ id row found. by id row (row_with id pages) refl (sym (found_moved id) ∙ found);
    }
      where
        one_parent : (a b : Option ℕ) → Some a ≡ Some b → a ≡ b
        one_parent a b is = cc

        by : (id : ℕ) (row : Page) (o : Option Page) → row_with id pages ≡ o →
            option_map (relisted paths urls) o ≡ Some row →
            AllByRecursion (λ other. nat_eq other.id id ≡ false → HasOtherSlug row other) listed
        by id row None e h = absurd cc
        by id row (Some old) e h =
            let same : relisted paths urls old ≡ row = cc in
            subst (λ (r : Page). AllByRecursion (λ other. nat_eq other.id id ≡ false → HasOtherSlug r
            other) listed) same (All-listed (λ other. nat_eq other.id id ≡ false → HasOtherSlug old
            other) (All-weaker (λ other. nat_eq other.id old.id ≡ false → HasOtherSlug old other) (λ
            other. nat_eq other.id id ≡ false → HasOtherSlug old other) (λ other apart differ. apart (ap
            (nat_eq other.id) own ∙ differ)) pages (others_differ (λ (r : Page). nat_eq r.id id) pages
            old kept.are_pages.own_slugs e)))
          where
            own : old.id ≡ id
            own =
                let test : nat_eq old.id id ≡ true = found_passes (λ (r : Page). nat_eq r.id id) pages
                old e in grind (arith, nat_tests)
