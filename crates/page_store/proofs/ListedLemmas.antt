-- Rows with new paths that are not settled yet: what is known of them, and the page above a path.
use Rattle.std.proofs.Common.{◌≡◌, ℕ, ◌<◌, nat_eq, List, [], ◌∷◌, Some, None, IsSome, map, length, slice_get, ap, sym, ◌∙◌, subst}
use Rattle.std.proofs.lemmas.Option.{slice_get-map}
use Rattle.std.specs.List.{AllByRecursion}
use Rattle.std.specs.Option.{option_map, option_and_then}
use Rattle.std.specs.Map.{lookup}
use Rattle.page_tree.specs.Rows.{row_with}
use Rattle.step_path.specs.Path.{IsPath, steps_of}
use Rattle.page_store.specs.declared.stored.StoredRow.{StoredRow}
use Rattle.page_store.specs.declared.search.Front.TheVariants.{Before}
use Rattle.page_store.specs.PageRows.{above, parent_id}
use Rattle.page_store.specs.Pages.{Page, EachPair, IsBefore, HasOtherId, StartsAtRoot}
use Rattle.page_store.specs.Kept.{seen}
use Rattle.page_store.specs.Search.{leading, PassFirst, is_front}
use Rattle.page_store.specs.Relabelling.{reparented, recounted}
use Rattle.page_store.specs.Settling.{settled, IsListed}
use Rattle.page_store.proofs.AllLemmas.{All-both}
use Rattle.page_store.proofs.SeenLemmas.{place_of_ids, first_of_ids, steps_of_kid, parent_at}
use Rattle.page_store.proofs.MapLemmas.{All-unmap, EachPair-unmap}

module _ (stored : List (ℕ × StoredRow)) (order : List ℕ) (rows : List Page)
    (listed : IsListed stored order rows) where
  -- the rows below the pages above their paths
  abbrev pub below : List Page
  below = map (reparented rows) rows

  -- what holds of each settled row holds of the row
  unsettled : (P : Page → Type 0) → AllByRecursion P (settled rows) →
      AllByRecursion (λ row. P (recounted below (reparented rows row))) rows
  unsettled P all =
      All-unmap (λ row. P (recounted below row)) (reparented rows) rows (All-unmap P (recounted below)
      below all)

  -- the same of pairs
  unsettled_pairs : (R : Page → Page → Type 0) → EachPair R (settled rows) →
      EachPair (λ row later. R (recounted below (reparented rows row)) (recounted below (reparented
      rows later))) rows
  unsettled_pairs R pairs =
      EachPair-unmap (λ row later. R (recounted below row) (recounted below later)) (reparented rows)
      rows (EachPair-unmap R (recounted below) below pairs)

  -- the ids differ
  pub own_ids_listed : EachPair HasOtherId rows
  own_ids_listed = unsettled_pairs HasOtherId listed.are_pages.own_ids

  -- the paths stand in order
  in_order_listed : EachPair IsBefore rows
  in_order_listed = unsettled_pairs IsBefore listed.are_pages.in_order

  -- those that come before a path stand first
  pub first_listed : (path : List ℕ) → PassFirst (is_front Before path stored) order
  first_listed = first_of_ids stored order rows listed.ids listed.found own_ids_listed in_order_listed

  -- a page that is kept is found by its id
  pub found_listed : (id : ℕ) (page : StoredRow) → Some page ≡ lookup (nat_eq id) stored →
      row_with id rows ≡ Some (seen page)
  found_listed id page is = listed.found id ∙ ap (option_map seen) (sym is)

  -- what is above the path of a page that is kept
  pub above_listed : (id : ℕ) (page : StoredRow) → Some page ≡ lookup (nat_eq id) stored →
      option_and_then (λ row. parent_id row.path rows) (row_with id rows) ≡ parent_id (steps_of
      page.row.path) rows
  above_listed id page is = ap (option_and_then (λ row. parent_id row.path rows)) (found_listed id page is)

  -- a page that has a page above it has a path of two steps or more
  pub long_listed : (id : ℕ) (page : StoredRow) (text : List ℕ) →
      Some page ≡ lookup (nat_eq id) stored → text ≡ page.row.path →
      IsSome (option_and_then (λ row. parent_id row.path rows) (row_with id rows)) →
      1 < length (steps_of text)
  long_listed id page text is same there =
      subst (λ (t : List ℕ). 1 < length (steps_of t)) (sym same) (steps_of_kid (steps_of
      page.row.path) rows (unsettled (λ row. IsPath row.path) listed.are_pages.paths) (subst IsSome
      (above_listed id page is) there))

  -- the page above stands behind the pages that come before its path
  pub parent_listed : (id : ℕ) (page : StoredRow) (text higher seen_text : List ℕ) (place : ℕ) →
      Some page ≡ lookup (nat_eq id) stored → text ≡ page.row.path →
      IsSome (option_and_then (λ row. parent_id row.path rows) (row_with id rows)) →
      steps_of higher ≡ above (steps_of text) → seen_text ≡ higher →
      place ≡ leading (is_front Before (steps_of seen_text) stored) order →
      option_and_then (λ row. parent_id row.path rows) (row_with id rows) ≡ slice_get order place
  parent_listed id page text higher seen_text place is same there steps read at =
      above_listed id page is
      ∙ parent_at (steps_of page.row.path) seen_text place rows in_order_listed (subst IsSome
      (above_listed id page is) there) (ap steps_of read ∙ steps ∙ ap (λ t. above (steps_of t)) same)
      (at ∙ place_of_ids stored order rows listed.ids listed.found own_ids_listed Before (steps_of
      seen_text))
      ∙ sym (slice_get-map (λ (row : Page). row.id) rows place)
      ∙ ap (λ ids. slice_get ids place) listed.ids

  -- the root has no page above it, and each other page has one
  pub rooted_listed : AllByRecursion (λ row. (row.id ≡ 1 → parent_id row.path rows ≡ None) × ((row.id ≡ 1
      → ⊥) → IsSome (parent_id row.path rows))) rows
  rooted_listed = by rows listed.are_pages.root own_ids_listed
    where
      by : (rs : List Page) → StartsAtRoot (map (recounted below) (map (reparented rows) rs)) →
          EachPair HasOtherId rs → AllByRecursion (λ row. (row.id ≡ 1 → parent_id row.path rows ≡
          None) × ((row.id ≡ 1 → ⊥) → IsSome (parent_id row.path rows))) rs
      by [] root own = absurd root
      by (first ∷ rs) root own = (
        ((λ one. root.0.no_parent), (λ other. absurd (other root.0.id_is))),
        All-both (HasOtherId first) (λ row. IsSome (parent_id row.path rows)) (λ row. (row.id ≡ 1 →
            parent_id row.path rows ≡ None) × ((row.id ≡ 1 → ⊥) → IsSome (parent_id row.path rows)))
            (λ row apart some. ((λ one. absurd (apart (one ∙ sym root.0.id_is))), (λ other. some))) rs
            own.0 (All-unmap (λ row. IsSome row.parent) (reparented rows) rs (All-unmap
            (λ row. IsSome row.parent) (recounted below) (map (reparented rows) rs) root.1)),
      )
